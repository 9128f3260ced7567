-- Channels in their order.
use Rattle.std.proofs.Common.{◌≡◌, ℕ, zero, suc, ◌+◌, ◌<◌, ◌≤◌, false, List, [], ◌∷◌, ◌++◌, length}
use Rattle.std.proofs.Common.{take, drop, map, Option, Some, None, slice_set, slice_index_or, option_map, refl, ap, sym}
use Rattle.std.proofs.Common.{◌∙◌, arith, append-nil, subst}
use Rattle.std.specs.Prelude.{◌==◌}
use Rattle.eps_sec.specs.declared.Keys.{Keys}
use Rattle.l2_types.specs.declared.side.Side.{Side}
use Rattle.l2_types.specs.declared.side.Side.TheVariants.{Nb, Ue}
use Rattle.journal_um.specs.declared.pieces.JoinedSdu.{JoinedSdu}
use Rattle.journal_flows.specs.FlowsTold.{is_at}
use Rattle.journal_flows.specs.Accounts.{Keeping}
use Rattle.journal_flows.specs.Laws.{Deed, kept_by, taken_of}
use Rattle.journal_edge.specs.EdgeFlow.{EdgeFlow, flow_all_read}
use Rattle.journal_edge.specs.EdgeChecking.{ready_at, octets_in, slot_read, left_by, slots_read, slots_leave}
use Rattle.journal_edge.specs.EdgeChecking.{slot_closed}
use Rattle.journal_edge.proofs.Taking.{kept_whole, takes_all}

drop_past : {A : Type 0} (xs : List A) (at : ℕ) → length xs ≤ at → drop at xs ≡ []
drop_past [] zero h = refl
drop_past [] (suc at) h = refl
drop_past (x ∷ xs) zero h = absurd (omega (arith, h))
drop_past (x ∷ xs) (suc at) h = drop_past xs at (omega (arith, h))

take_past : {A : Type 0} (xs : List A) (at : ℕ) → length xs ≤ at → take at xs ≡ xs
take_past [] zero h = refl
take_past [] (suc at) h = refl
take_past (x ∷ xs) zero h = absurd (omega (arith, h))
take_past (x ∷ xs) (suc at) h = ap (λ (ys : List _). x ∷ ys) (take_past xs at (omega (arith, h)))

-- ---- each reads

abbrev pub read_from : Side → ℕ → Keeping → List (Option EdgeFlow) → List (Option EdgeFlow)
read_from from at k xs = take at xs ++ slots_read from at k (drop at xs)

abbrev pub leave_from : Side → ℕ → Keeping → List (Option EdgeFlow) → Keeping
leave_from from at k xs = slots_leave from at k (drop at xs)

read_at : (from : Side) (xs : List (Option EdgeFlow)) (at n : ℕ) (k : Keeping) → at < length xs
    → take (suc at) (slice_set xs at (slot_read from n k (slice_index_or xs at None)))
    ++ slots_read from (n + 1) (left_by from n k (slice_index_or xs at None))
    (drop (suc at) (slice_set xs at (slot_read from n k (slice_index_or xs at None))))
    ≡ take at xs ++ slots_read from n k (drop at xs)
read_at from [] at n k h = absurd (omega (arith, h))
read_at from (x ∷ xs) zero n k h = refl
read_at from (x ∷ xs) (suc at) n k h =
    ap (λ (ys : List (Option EdgeFlow)). x ∷ ys) (read_at from xs at n k (omega (arith, h)))

leave_at : (from : Side) (xs : List (Option EdgeFlow)) (at n : ℕ) (k : Keeping) (v : Option EdgeFlow) → at < length xs
    → slots_leave from (n + 1) (left_by from n k (slice_index_or xs at None)) (drop (suc at) (slice_set xs at v))
    ≡ slots_leave from n k (drop at xs)
leave_at from [] at n k v h = absurd (omega (arith, h))
leave_at from (x ∷ xs) zero n k v h = refl
leave_at from (x ∷ xs) (suc at) n k v h = leave_at from xs at n k v (omega (arith, h))

pub read_next : (from : Side) (xs ys : List (Option EdgeFlow)) (at : ℕ) (k l : Keeping) → at < length xs
    → ys ≡ slice_set xs at (slot_read from at k (slice_index_or xs at None))
    → l ≡ left_by from at k (slice_index_or xs at None)
    → read_from from (at + 1) l ys ≡ read_from from at k xs
read_next from xs ys at k l h is left =
    let next : at + 1 ≡ suc at = omega arith in
    ap (λ (n : ℕ). take n ys ++ slots_read from (at + 1) l (drop n ys)) next
    ∙ ap (λ (zs : List (Option EdgeFlow)). take (suc at) zs ++ slots_read from (at + 1) l (drop (suc at) zs)) is
    ∙ ap (λ (m : Keeping).
    take (suc at) (slice_set xs at (slot_read from at k (slice_index_or xs at None)))
    ++ slots_read from (at + 1) m
    (drop (suc at) (slice_set xs at (slot_read from at k (slice_index_or xs at None))))) left
    ∙ read_at from xs at at k h

pub leave_next : (from : Side) (xs ys : List (Option EdgeFlow)) (at : ℕ) (k l : Keeping) → at < length xs
    → ys ≡ slice_set xs at (slot_read from at k (slice_index_or xs at None))
    → l ≡ left_by from at k (slice_index_or xs at None)
    → leave_from from (at + 1) l ys ≡ leave_from from at k xs
leave_next from xs ys at k l h is left =
    let next : at + 1 ≡ suc at = omega arith in
    ap (λ (n : ℕ). slots_leave from (at + 1) l (drop n ys)) next
    ∙ ap (λ (zs : List (Option EdgeFlow)). slots_leave from (at + 1) l (drop (suc at) zs)) is
    ∙ ap (λ (m : Keeping). slots_leave from (at + 1) m
    (drop (suc at) (slice_set xs at (slot_read from at k (slice_index_or xs at None))))) left
    ∙ leave_at from xs at at k (slot_read from at k (slice_index_or xs at None)) h

pub read_past : (from : Side) (xs : List (Option EdgeFlow)) (at : ℕ) (k : Keeping) → length xs ≤ at
    → read_from from at k xs ≡ xs
read_past from xs at k h =
    ap (λ (zs : List (Option EdgeFlow)). zs ++ slots_read from at k (drop at xs)) (take_past xs at h)
    ∙ ap (λ (zs : List (Option EdgeFlow)). xs ++ slots_read from at k zs) (drop_past xs at h) ∙ append-nil xs

pub leave_past : (from : Side) (xs : List (Option EdgeFlow)) (at : ℕ) (k : Keeping) → length xs ≤ at
    → leave_from from at k xs ≡ k
leave_past from xs at k h = ap (λ (zs : List (Option EdgeFlow)). slots_leave from at k zs) (drop_past xs at h)

pub ruleset reads = (read_next, leave_next, read_past, leave_past)

-- ---- each is closed

abbrev pub closed_from : Option Keys → ℕ → List (Option EdgeFlow) → List (Option EdgeFlow)
closed_from renewal at xs = take at xs ++ map (slot_closed renewal) (drop at xs)

close_at : (renewal : Option Keys) (xs : List (Option EdgeFlow)) (at : ℕ) → at < length xs
    → take (suc at) (slice_set xs at (slot_closed renewal (slice_index_or xs at None)))
    ++ map (slot_closed renewal) (drop (suc at) (slice_set xs at (slot_closed renewal (slice_index_or xs at None))))
    ≡ take at xs ++ map (slot_closed renewal) (drop at xs)
close_at renewal [] at h = absurd (omega (arith, h))
close_at renewal (x ∷ xs) zero h = refl
close_at renewal (x ∷ xs) (suc at) h =
    ap (λ (ys : List (Option EdgeFlow)). x ∷ ys) (close_at renewal xs at (omega (arith, h)))

pub close_next : (renewal : Option Keys) (xs ys : List (Option EdgeFlow)) (at : ℕ) → at < length xs
    → ys ≡ slice_set xs at (slot_closed renewal (slice_index_or xs at None))
    → closed_from renewal (at + 1) ys ≡ closed_from renewal at xs
close_next renewal xs ys at h is =
    let next : at + 1 ≡ suc at = omega arith in
    ap (λ (n : ℕ). take n ys ++ map (slot_closed renewal) (drop n ys)) next
    ∙ ap (λ (zs : List (Option EdgeFlow)). take (suc at) zs ++ map (slot_closed renewal) (drop (suc at) zs)) is
    ∙ close_at renewal xs at h

pub close_past : (renewal : Option Keys) (xs : List (Option EdgeFlow)) (at : ℕ) → length xs ≤ at
    → closed_from renewal at xs ≡ xs
close_past renewal xs at h =
    ap (λ (zs : List (Option EdgeFlow)). zs ++ map (slot_closed renewal) (drop at xs)) (take_past xs at h)
    ∙ ap (λ (zs : List (Option EdgeFlow)). xs ++ map (slot_closed renewal) zs) (drop_past xs at h) ∙ append-nil xs

pub ruleset closes = (close_next, close_past)

-- ---- what each reads as all do

pub record IsReadAt (from : Side) (n : ℕ) (slots : List (Option EdgeFlow)) (d deeds : List Deed) (i : ℕ)
    : Type 0 where
  pub sdus : List JoinedSdu
  pub taken : taken_of from (n + i) deeds ≡ taken_of from (n + i) d ++ sdus
  pub slot : slice_index_or (slots_read from n (kept_by d) slots) i None
      ≡ option_map (flow_all_read (octets_in sdus)) (slice_index_or slots i None)
  pub calm : (f : EdgeFlow) → slice_index_or slots i None ≡ Some f → ready_at from (n + i) (kept_by deeds) ≡ []

pub record AreRead (from : Side) (n : ℕ) (slots : List (Option EdgeFlow)) (d : List Deed) : Type 0 where
  pub deeds : List Deed
  pub kept : slots_leave from n (kept_by d) slots ≡ kept_by deeds
  pub whole : kept_whole deeds ≡ kept_whole d
  pub each : (i : ℕ) → i < length slots → IsReadAt from n slots d deeds i
  pub others : (s : Side) (m : ℕ) → ((i : ℕ) → is_at from (n + i) s m ≡ false)
      → taken_of s m deeds ≡ taken_of s m d
  pub stay : (s : Side) (m : ℕ) → ((i : ℕ) → is_at from (n + i) s m ≡ false)
      → ready_at s m (kept_by deeds) ≡ ready_at s m (kept_by d)

differs : (from : Side) (a b : ℕ) → (a ≡ b → ⊥) → is_at from a from b ≡ false
differs Nb a b h = let no : (a == b) ≡ false = grind (arith, h) in no
differs Ue a b h = let no : (a == b) ≡ false = grind (arith, h) in no

-- what one leaves
record OneRead (from : Side) (n : ℕ) (slot : Option EdgeFlow) (d : List Deed) : Type 0 where
  deeds : List Deed
  sdus : List JoinedSdu
  kept : left_by from n (kept_by d) slot ≡ kept_by deeds
  whole : kept_whole deeds ≡ kept_whole d
  taken : taken_of from n deeds ≡ taken_of from n d ++ sdus
  slot_is : slot_read from n (kept_by d) slot ≡ option_map (flow_all_read (octets_in sdus)) slot
  calm : (f : EdgeFlow) → slot ≡ Some f → ready_at from n (kept_by deeds) ≡ []
  others : (s : Side) (m : ℕ) → is_at from n s m ≡ false → taken_of s m deeds ≡ taken_of s m d
  stay : (s : Side) (m : ℕ) → is_at from n s m ≡ false → ready_at s m (kept_by deeds) ≡ ready_at s m (kept_by d)

one_read : (from : Side) (n : ℕ) (slot : Option EdgeFlow) (d : List Deed) → OneRead from n slot d
one_read from n None d = record {
  deeds = d;
  sdus = [];
  kept = refl;
  whole = refl;
  taken = sym (append-nil (taken_of from n d));
  slot_is = refl;
  calm = λ f e. let no : None ≡ Some f = e in cc;
  others = λ s m off. refl;
  stay = λ s m off. refl;
}
one_read from n (Some f) d =
    let r = takes_all from n (ready_at from n (kept_by d)) d refl in
    record {
      deeds = r.deeds;
      sdus = ready_at from n (kept_by d);
      kept = r.kept;
      whole = r.whole;
      taken = r.own;
      slot_is = refl;
      calm = λ g e. r.calm;
      others = r.others;
      stay = r.stay;
    }

shift : (n i : ℕ) → n + suc i ≡ n + 1 + i
shift n i = omega arith

here : (n : ℕ) → n + 0 ≡ n
here n = omega arith

apart_first : (n i : ℕ) → n + 1 + i ≡ n → ⊥
apart_first n i e = omega (arith, e)

apart_later : (n i : ℕ) → n ≡ n + 1 + i → ⊥
apart_later n i e = omega (arith, e)

pub all_read_so : (from : Side) (n : ℕ) (slots : List (Option EdgeFlow)) (d : List Deed) → AreRead from n slots d
all_read_so from n [] d = record {
  deeds = d;
  kept = refl;
  whole = refl;
  each = λ i h. absurd (omega (arith, h));
  others = λ s m off. refl;
  stay = λ s m off. refl;
}
all_read_so from n (slot ∷ slots) d =
    let o = one_read from n slot d in
    let r = all_read_so from (n + 1) slots o.deeds in
    record {
      deeds = r.deeds;
      kept = ap (λ (k : Keeping). slots_leave from (n + 1) k slots) o.kept ∙ r.kept;
      whole = r.whole ∙ o.whole;
      each = λ i h. at o r i h;
      others = λ s m off. r.others s m (λ i. later s m off i) ∙ o.others s m (first s m off);
      stay = λ s m off. r.stay s m (λ i. later s m off i) ∙ o.stay s m (first s m off);
    }
  where
    later : (s : Side) (m : ℕ) → ((i : ℕ) → is_at from (n + i) s m ≡ false) → (i : ℕ)
        → is_at from (n + 1 + i) s m ≡ false
    later s m off i = subst (λ (c : ℕ). is_at from c s m ≡ false) (shift n i) (off (suc i))

    first : (s : Side) (m : ℕ) → ((i : ℕ) → is_at from (n + i) s m ≡ false) → is_at from n s m ≡ false
    first s m off = subst (λ (c : ℕ). is_at from c s m ≡ false) (here n) (off 0)

    at : (o : OneRead from n slot d) (r : AreRead from (n + 1) slots o.deeds) (i : ℕ) → i < length (slot ∷ slots)
        → IsReadAt from n (slot ∷ slots) d r.deeds i
    at o r zero h =
        let apart : (i : ℕ) → is_at from (n + 1 + i) from n ≡ false = λ i.
        differs from (n + 1 + i) n (apart_first n i) in
        record {
          sdus = o.sdus;
          taken = subst (λ (c : ℕ). taken_of from c r.deeds ≡ taken_of from c d ++ o.sdus) (sym (here n))
              (r.others from n apart ∙ o.taken);
          slot = o.slot_is;
          calm = λ f e. subst (λ (c : ℕ). ready_at from c (kept_by r.deeds) ≡ []) (sym (here n))
              (r.stay from n apart ∙ o.calm f e);
        }
    at o r (suc i) h =
        let x = r.each i (omega (arith, h)) in
        let before = o.others from (n + 1 + i) (differs from n (n + 1 + i) (apart_later n i)) in
        record {
          sdus = x.sdus;
          taken = subst (λ (c : ℕ). taken_of from c r.deeds ≡ taken_of from c d ++ x.sdus) (sym (shift n i))
              (x.taken ∙ ap (λ (l : List JoinedSdu). l ++ x.sdus) before);
          slot = ap (λ (k : Keeping). slice_index_or (slots_read from (n + 1) k slots) i None) o.kept ∙ x.slot;
          calm = λ f e. subst (λ (c : ℕ). ready_at from c (kept_by r.deeds) ≡ []) (sym (shift n i)) (x.calm f e);
        }
