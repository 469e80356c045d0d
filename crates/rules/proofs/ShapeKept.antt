-- The shape of a table is kept when a term is entered whose parts are there already: no term stands twice, and a seal's parts
-- have lower numbers. Said of any term; of an item and of a key nothing is asked. Rests on Sound's Shape.
use Prim.Native.Nat.{ℕ}
use native.Mathlib.Omega.{arith}
use mathlib.Core.Path.{◌≡◌, sym, subst, ◌∙◌}
use mathlib.Core.Logic.{⊎_elim}
use mathlib.Core.Bool.{true, false}
use mathlib.Core.List.{[], ◌∷◌, ◌++◌}
use mathlib.Core.Option.{some}
use lib.ListN.{get_elem?, length}
use Rattle.terms.specs.Lists.{◌∈◌}
use Rattle.terms.specs.Terms.{Term, Table, item, key, seal, listed, enter}
use Rattle.terms.proofs.Lists.{bool_cases, at_in, in_at, at_append}
use Rattle.terms.proofs.Terms.{listed_false, enter_listed, enter_new}
use Rattle.rules.proofs.Sound.{Earlier, Shape}
use Rattle.terms.proofs.Lists.{at_snoc}

-- the parts of a term stand in the table
abbrev pub PartsIn : Table → Term → Type 0
PartsIn table (item n) = Unit {0}
PartsIn table (key k) = Unit {0}
PartsIn table (seal k m) = (key k ∈ table) × (m ∈ table)

-- what has a lower number keeps it when more is entered
earlier_more : {table : Table} {i : ℕ} {x : Term} (more : Table) → Earlier table i x → Earlier (table ++ more) i x
earlier_more {table} more e =
    record { place = e.place; is_lower = e.is_lower; is_there = at_append table more e.place e.is_there }

-- what is in the table has a lower number than what is put at its end
earlier_end : {table : Table} {x : Term} (i : ℕ) (more : Table) → i ≡ length table → x ∈ table → Earlier (table ++ more) i x
earlier_end {table} i more e h =
    let a = in_at h in
    record { place = a.0; is_lower = omega (arith, a.2); is_there = at_append table more a.0 a.1 }

-- a new term at the end of the table keeps its shape, where its parts are in the table
shape_snoc : (table : Table) (m : Term) → ¬ (m ∈ table) → PartsIn table m → Shape table → Shape (table ++ m ∷ [])
shape_snoc table m new parts shape = record { once = once; key_earlier = key_earlier; payload_earlier = payload_earlier }
  where
    there : (i : ℕ) {x : Term} → get_elem? table i ≡ some x → x ≡ m → ⊥
    there i e q = new (subst (λ (y : Term). y ∈ table) q (at_in table i e))

    of_new : (k : ℕ) (x : Term) → seal k x ≡ m → (key k ∈ table) × (x ∈ table)
    of_new k x q = subst (PartsIn table) (sym q) parts

    once : {i j : ℕ} {x : Term} → get_elem? (table ++ m ∷ []) i ≡ some x → get_elem? (table ++ m ∷ []) j ≡ some x → i ≡ j
    once {i} {j} a b =
        ⊎_elim (λ a'. ⊎_elim (λ b'. shape.once a' b') (λ b'. absurd (there i a' b'.1)) (at_snoc table m j b))
        (λ a'. ⊎_elim (λ b'. absurd (there j b' a'.1)) (λ b'. a'.0 ∙ sym b'.0) (at_snoc table m j b))
        (at_snoc table m i a)

    key_earlier : {i k : ℕ} {x : Term} → get_elem? (table ++ m ∷ []) i ≡ some (seal k x) → Earlier (table ++ m ∷ []) i (key k)
    key_earlier {i} {k} {x} a =
        ⊎_elim (λ a'. earlier_more (m ∷ []) (shape.key_earlier a'))
        (λ e. earlier_end i (m ∷ []) e.0 (of_new k x e.1).0) (at_snoc table m i a)

    payload_earlier : {i k : ℕ} {x : Term} → get_elem? (table ++ m ∷ []) i ≡ some (seal k x) → Earlier (table ++ m ∷ []) i x
    payload_earlier {i} {k} {x} a =
        ⊎_elim (λ a'. earlier_more (m ∷ []) (shape.payload_earlier a'))
        (λ e. earlier_end i (m ∷ []) e.0 (of_new k x e.1).1) (at_snoc table m i a)

-- entering a term whose parts are in the table keeps the table's shape
pub shape_enter : (table : Table) (m : Term) → PartsIn table m → Shape table → Shape (enter table m)
shape_enter table m parts shape =
    bool_cases (listed table m) (λ (e : listed table m ≡ true). rw (enter_listed table m e) shape)
    (λ (e : listed table m ≡ false). rw (enter_new table m e) (shape_snoc table m (listed_false table m e) parts shape))

-- the parts of a seal of the table are in the table
pub parts_in : {table : Table} {k : ℕ} {m : Term} → Shape table → seal k m ∈ table → PartsIn table (seal k m)
parts_in {table} shape h =
    let a = in_at h in
    let k = shape.key_earlier a.1 in
    let p = shape.payload_earlier a.1 in
    (at_in table k.place k.is_there, at_in table p.place p.is_there)
