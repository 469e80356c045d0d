-- One turn of the loop of `follow` in src/leaks.rt: a key that waits is taken, a seal is passed, or a key is learnt. Each
-- leaves less to do. Rests on LeakFollow.antt and the laws of a walk (LeakPop, LeakPass, LeakLearn).
use Prim.Native.Nat.{ℕ, suc, ◌+◌, ◌≤◌, ◌<◌}
use mathlib.Core.Path.{◌≡◌, refl, sym, ◌∙◌, ap}
use mathlib.Core.Bool.{Bool, true, false, not, ◌&&◌, true≢false}
use mathlib.Core.List.{List, [], ◌∷◌, ◌++◌}
use native.Mathlib.Omega.{arith}
use lib.ListN.{length, get_or, length-append}
use borrow.Author.Tests.{not-true, not-false}
use Rattle.std.specs.Prelude.{Option, Some, None}
use Rattle.rules.specs.State.{most_terms}
use Rattle.shapes.specs.declared.Entry.{Entry}
use Rattle.shapes.specs.declared.KeyNo.{KeyNo}
use Rattle.shapes.specs.declared.TermNo.{TermNo}
use Rattle.token.specs.declared.Table.{Table}
use Rattle.shapes.specs.declared.Term.{Term as Kind}
use Rattle.shapes.specs.declared.Term.TheVariants.{Data, Key, Seal}
use Rattle.token.specs.Chains.{as_number}
use Rattle.token.specs.Shows.{blank_entry}
use Rattle.shapes.specs.Entries.{is_key_kind, is_key_entry, key_of, payload_no, is_held}
use Rattle.running.specs.Leaks.{kind_at, held_at, Leak, leads}
use Rattle.token.proofs.ChainsLast.{last_le}
use Rattle.running.proofs.LeakCount.{unheld, unheld_set}
use Rattle.running.proofs.LeakMark.{marked, marked_here}
use Rattle.running.proofs.LeakSeals.{SealUnder, under, seal_below, older_link}
use Rattle.running.proofs.LeakWalk.{Walk}
use Rattle.running.proofs.LeakPop.{source_inside, taken, walk_pops}
use Rattle.running.proofs.LeakPass.{Settled, reached, walk_passes}
use Rattle.running.proofs.LeakLearn.{has_room, walk_learns}
use Rattle.running.proofs.LeakFollow.{Following, left, link_inside, with_entry, HeldEntry}

-- an entry that is a key's and not held: what it says, and what the opposite says of a key
abbrev leaking : Entry → Bool
leaking e = is_key_entry e && not (is_held e)

not_leaking : (e : Entry) (l : KeyNo) → e.term ≡ Key l → leaking e ≡ false → is_held e ≡ true
not_leaking e l k h = not-false (is_held e) (rw k at h)

leak_is_key : (x : Kind) (b : Bool) → (is_key_kind x && not b) ≡ true → x ≡ Key (key_of x)
leak_is_key Data b h = absurd (true≢false (sym h))
leak_is_key (Key k) b h = refl
leak_is_key (Seal k p) b h = absurd (true≢false (sym h))

leak_not_held : (x : Kind) (b : Bool) → (is_key_kind x && not b) ≡ true → b ≡ false
leak_not_held Data b h = absurd (true≢false (sym h))
leak_not_held (Key k) b h = not-true b h
leak_not_held (Seal k p) b h = absurd (true≢false (sym h))

module _
    {newest older : List (Option TermNo)}
    {first : Table}
    {t : ℕ}
    {now : Table}
    {waiting : List ℕ}
    {link : Option TermNo}
    (i : Following newest older first t now waiting link)
  where
    -- the same table, further on in the walk
    further : {waiting' : List ℕ} {link' : Option TermNo} → Walk first.entries first.terms t now.entries waiting' link' →
        Following newest older first t now waiting' link'
    further w = record { ready = i.ready; same_terms = i.same_terms; same_keys = i.same_keys; walk = w }

    -- the last chain is walked, and a key waits
    module _ (done : link ≡ None) (rest : List ℕ) (c : ℕ) (last : waiting ≡ rest ++ c ∷ []) where
      at_pop : Walk first.entries first.terms t now.entries (rest ++ c ∷ []) None
      at_pop = rw (done, last) at i.walk

      -- the key has its place in the table
      pub pop_inside : c < most_terms
      pop_inside = source_inside i.ready (taken rest c i.ready at_pop)

      pub follow_pops : Following newest older first t now rest (get_or newest c None)
      follow_pops = further (walk_pops rest c i.ready at_pop)

      -- its whole chain counts for less than the key did while it waited
      pub pop_less : left now rest (get_or newest c None) < left now waiting link
      unfolding left
      pop_less =
          let one_more : length waiting ≡ length rest + 1 = ap length last ∙ length-append rest (c ∷ []) in
          omega (arith, link_inside follow_pops, one_more)

    -- the link leads to a seal
    module _ (seal : TermNo) (leads_to : link ≡ Some seal) where
      at_seal : Walk first.entries first.terms t now.entries waiting (Some seal)
      at_seal = rw leads_to at i.walk

      seal_here : SealUnder first.entries at_seal.key seal.0
      seal_here = reached i.ready at_seal

      -- it lies in the table, and so does the link to the next
      pub seal_inside : seal.0 < most_terms
      seal_inside = omega (arith, seal_below i.ready seal.0 seal_here.kind, i.ready.few)

      older_less : as_number (get_or older seal.0 None) ≤ seal.0
      older_less =
          omega (
            arith,
            older_link i.ready seal.0 seal_here.kind,
            last_le (under first.entries at_seal.key) seal.0,
          )

      module _ {p : TermNo} (is_payload : p ≡ payload_no (kind_at now.entries seal.0)) where
        payload_here : kind_at first.entries seal.0 ≡ Seal (record { 0 = at_seal.key }) p
        payload_here =
            let kind : kind_at now.entries seal.0 ≡ _ = i.walk.kept.same_kind seal.0 ∙ seal_here.kind in
            let same : p ≡ seal_here.payload = is_payload ∙ ap payload_no kind in
            rw same seal_here.kind

        pub payload_inside : p.0 < most_terms
        payload_inside = i.ready.seals_inside seal.0 _ p payload_here

        passed : leaking (get_or now.entries p.0 blank_entry) ≡ false → Settled first.entries now.entries seal.0
        passed h q j l s m =
            let same : p ≡ record { 0 = q } = cc (payload_here) in
            not_leaking (get_or now.entries q blank_entry) l (i.walk.kept.same_kind q ∙ m) (rw same at h)

        -- its payload is no key, or is held already
        module _ (h : leaking (get_or now.entries p.0 blank_entry) ≡ false) where
          pub follow_passes : Following newest older first t now waiting (get_or older seal.0 None)
          follow_passes = further (walk_passes i.ready at_seal (passed h))

          pub pass_less : left now waiting (get_or older seal.0 None) < left now waiting link
          unfolding left
          pass_less = omega (arith, older_less, ap as_number leads_to)

        -- its payload is a key that was not held
        module _
            (h : leaking (get_or now.entries p.0 blank_entry) ≡ true)
            {e : Entry}
            (held : HeldEntry now p.0 e)
            {k : KeyNo}
            (is_key : k ≡ key_of (kind_at now.entries p.0))
          where
            payload_kind : kind_at now.entries p.0 ≡ Key k
            payload_kind = leak_is_key (kind_at now.entries p.0) (held_at now.entries p.0) h ∙ ap Key (sym is_key)

            key_here : kind_at first.entries p.0 ≡ Key k
            key_here = sym (i.walk.kept.same_kind p.0) ∙ payload_kind

            not_held : held_at now.entries p.0 ≡ false
            not_held = leak_not_held (kind_at now.entries p.0) (held_at now.entries p.0) h

            led : Leak first.entries t p.0
            led =
                leads at_seal.source.led
                (record {
                  outer = _;
                  inner = k;
                  seal_no = seal.0;
                  in_range = seal_inside;
                  outer_kind = at_seal.source.is_key;
                  seal_kind = payload_here;
                  inner_kind = key_here;
                })

            inside : p.0 < length now.entries
            inside = omega (arith, payload_inside, i.walk.kept.same_length, i.ready.whole)

            pub learn_room : length waiting < most_terms
            learn_room = has_room at_seal p.0 inside key_here not_held led

            learnt : Walk first.entries first.terms t (marked now.entries p.0) (waiting ++ k.0 ∷ []) (Some seal)
            learnt = walk_learns at_seal p.0 inside key_here not_held led

            learnt_settles : Settled first.entries (marked now.entries p.0) seal.0
            learnt_settles q j l s m =
                let same : q ≡ p.0 = cc (payload_here) in
                rw same (marked_here now.entries p.0 inside)

            one_less : unheld now.entries ≡ suc (unheld (marked now.entries p.0))
            one_less = unheld_set now.entries p.0 _ inside not_held refl

            pub follow_learns : Following newest older first t (with_entry now p.0 e) (waiting ++ k.0 ∷ []) (get_or older seal.0 None)
            follow_learns =
                rw held
                (record {
                  ready = i.ready;
                  same_terms = i.same_terms;
                  same_keys = i.same_keys;
                  walk = walk_passes i.ready learnt learnt_settles;
                })

            pub learn_less : left (with_entry now p.0 e) (waiting ++ k.0 ∷ []) (get_or older seal.0 None) < left now waiting link
            unfolding left
            learn_less = rw held (omega (arith, older_less, ap as_number leads_to, one_less, length-append waiting (k.0 ∷ [])))
