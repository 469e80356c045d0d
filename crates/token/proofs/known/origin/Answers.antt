-- `origin` meets its contract: the first entry of the key tells where it comes from (ApiKnown).
use Rattle.std.proofs.Common.{rules, ◌≡◌, ◌≢◌, ◌∙◌, ◌<◌, ℕ, sym, length, get_or, None}
use Rattle.shapes.specs.declared.Term.TheVariants.{Key}
use Rattle.shapes.specs.Entries.{blank_entry}
use Rattle.token.specs.Known.{origin_of}
use Rattle.token.proofs.ApiKnown.{origin_told, origin_none}
use Rattle.token.proofs.known.origin.Goals as goal

pub returns-in_err-entry : goal.returns-in_err-entry
returns-in_err-entry c =
    let entries = c.args.token.table.entries in
    let none : c.find.result ≡ None = c.in_err-entry.was in
    let each : (i : ℕ) → i < length entries → (get_or entries i blank_entry).term ≢ Key c.args.k = search rules in
    c.from_residual.ensures ∙ sym (origin_none entries c.args.k.0 each)

pub returns-then-entry : goal.returns-then-entry
unfolding origin_of
returns-then-entry c =
    let told = origin_told c.args.token.table.entries c.args.k.0 c.in_ok-entry.entry.now (search rules) in
    rw c.if-entry.true at told

pub returns-else-entry : goal.returns-else-entry
unfolding origin_of
returns-else-entry c =
    let told = origin_told c.args.token.table.entries c.args.k.0 c.in_ok-entry.entry.now (search rules) in
    rw c.if-entry.false at told
