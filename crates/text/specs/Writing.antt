-- Bytes written into a buffer from a place on: what each writing function promises. Assumes nothing.
use Rattle.std.specs.Prelude.{ℕ, ◌+◌, ◌≤◌, ◌≡◌, List, ◌++◌, length, take, drop}
use Rattle.sheets.specs.Calls.{over}
use Rattle.text.specs.declared.append.Page.{Page}
use Rattle.text.specs.Text.{Prints}

-- the bytes stand from this place on, and nothing else in the buffer changes
unfoldable pub placed : (at : ℕ) (bytes buffer : List ℕ) → List ℕ
placed at bytes buffer = take at buffer ++ bytes ++ drop (at + length bytes) buffer

-- so many bytes at most were written, and `end` is the place behind them
pub record Wrote (most : ℕ) (bytes before : List ℕ) (at : ℕ) (after : List ℕ) (end : ℕ) : Type 0 where
  pub written : after ≡ placed at bytes before
  pub behind : end ≡ at + length bytes
  pub few : length bytes ≤ most
  pub inside : at + length bytes ≤ length before

-- so many bytes have room on the page
abbrev pub HasRoom : (most : ℕ) → Page → Type 0
HasRoom most page = page.at + most ≤ length page.buffer.now

-- these bytes, so many at most, were put on the page: in the same buffer, at the page's place, which now lies behind them
pub record Puts (most : ℕ) (bytes : List ℕ) (before after : Page) : Type 0 where
  pub same_buffer : after.buffer.ghost_name ≡ before.buffer.ghost_name
  pub same_length : length after.buffer.now ≡ length before.buffer.now
  pub wrote : Wrote most bytes before.buffer.now before.at after.buffer.now after.at

-- a whole text, over the front of a buffer of 131,072 bytes, in which every text fits
pub record Printed (text before after : List ℕ) (long : ℕ) : Type 0 where
  pub written : after ≡ over text before
  pub how_long : long ≡ length text
  pub few : length text ≤ 131072
  pub fits : length text ≤ length before

-- the text of a sheet, over the front of the buffer
pub record TextWritten (s before after : List ℕ) (long : ℕ) : Type 0 where
  pub the_text : List ℕ
  pub prints : Prints s the_text
  pub printed : Printed the_text before after long
