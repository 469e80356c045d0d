-- The ten starred exercises of document 01 hold, all together: each reply is computed from the sheet's bytes and is what the
-- document says; that what is computed is the reply of the definitions is proved of every byte string. Rests on sheets' Replied.
use Prim.Native.Nat.{ℕ, zero, suc, ◌/◌, ◌%◌}
use mathlib.Core.Path.{◌≡◌, refl, sym, subst}
use mathlib.Core.Logic.{⊎_elim}
use mathlib.Core.List.Memᴰ
use mathlib.Core.List.{List, [], ◌∷◌}
use native.Mathlib.Omega.{arith}
use Rattle.terms.specs.Lists.{◌∈◌}
use Rattle.sheets.specs.Bytes.{Bytes}
use Rattle.sheets.specs.Reports.{Reply, malformed, reported, Replies, report_bytes}
use Rattle.sheets.specs.Reading.{reply}
use Rattle.sheets.proofs.Opened.{sheets_opened}
use Rattle.sheets.proofs.Replied.{replies}
use Rattle.sheets.specs.Hex.{hex}
use Rattle.exercises.specs.Exercises.{Says, answers, refused_12, report, Exercise, exercise, exercises, Holds, IsSo}

-- hexadecimal digits write bytes
hex_bytes : (n digits : ℕ) → Bytes (hex n digits)
unfolding hex
hex_bytes zero digits x h = absurd (Memᴰ.not-nil h)
hex_bytes (suc n) digits x h =
    ⊎_elim (hex_bytes n (digits / 256) x) (λ last. let e : x ≡ digits % 256 = Memᴰ.eq_of_singleton last in omega arith)
    (Memᴰ.append_cases (hex n (digits / 256)) h)

-- a reply is what the document says
abbrev Matches : Reply → Says → Type 0
Matches r (answers said known) = r ≡ reported said known
Matches r (refused_12 place) = r ≡ malformed place
Matches (malformed place) (report bytes) = ⊥
Matches (reported said known) (report bytes) = report_bytes said known ≡ bytes

matches_hold : (s : List ℕ) (r : Reply) (says : Says) → Replies s r → Matches r says → Holds s says
matches_hold s r (answers said known) is e = subst (Replies s) e is
matches_hold s r (refused_12 place) is e = subst (Replies s) e is
matches_hold s (malformed place) (report bytes) is e = absurd e
matches_hold s (reported said known) (report bytes) is e = (said, known, is, e)

-- every reply of a list of exercises is what the document says
abbrev AllMatch : List Exercise → Type 0
AllMatch [] = Unit {0}
AllMatch (exercise bytes digits says ∷ list) = Matches (reply (hex bytes digits)) says × AllMatch list

all_so : (list : List Exercise) → AllMatch list → (e : Exercise) → e ∈ list → IsSo e
all_so [] all e h = absurd (Memᴰ.not-nil h)
all_so (exercise bytes digits says ∷ list) all e h =
    ⊎_elim
    (λ (q : e ≡ exercise bytes digits says).
    subst IsSo (sym q)
    (matches_hold (hex bytes digits) (reply (hex bytes digits)) says (replies (hex bytes digits) (hex_bytes bytes digits)) all.0))
    (all_so list all.1 e)
    (Memᴰ.cases_cons h)

computed : AllMatch exercises
unfolding sheets_opened exercises hex
computed = (refl, (refl, (refl, (refl, (refl, (refl, (refl, (refl, (refl, (refl, (refl, tt)))))))))))

-- "The ten starred exercises are proved together over the definitions, as one table under one theorem"
pub exercises_hold : (e : Exercise) → e ∈ exercises → IsSo e
exercises_hold = all_so exercises computed
