-- What the end of a group leaves of each sender, and whether the group was right on each channel.
use Rattle.std.proofs.Common.{◌≡◌, ℕ, zero, suc, ◌+◌, ◌<◌, Bool, true, List, [], ◌∷◌, length, Option}
use Rattle.std.proofs.Common.{refl, ap, sym, ◌∙◌, arith, slice_index_or}
use Rattle.std.proofs.lemmas.Bool.{and_parts, and_from}
use Rattle.journal_failure.specs.declared.sender.Sender.{Sender}
use Rattle.journal_failure.specs.Checking.{nothing_told, with_end, is_sender_right, all_right, all_ended}

abbrev pub RightAt : (ℕ → Option ℕ) → ℕ → List Sender → ℕ → Type 0
RightAt limits first ss i = is_sender_right (limits (first + i)) (slice_index_or ss i nothing_told) ≡ true

shift : (first i : ℕ) → first + suc i ≡ first + 1 + i
shift first i = omega arith

here : (first : ℕ) → first + 0 ≡ first
here first = omega arith

pub rights_sound : (limits : ℕ → Option ℕ) (first : ℕ) (ss : List Sender) → all_right limits first ss ≡ true
    → (i : ℕ) → i < length ss → RightAt limits first ss i
rights_sound limits first [] h i lt = absurd (omega (arith, lt))
rights_sound limits first (s ∷ ss) h zero lt =
    ap (λ (n : ℕ). is_sender_right (limits n) s) (here first)
    ∙ (and_parts (is_sender_right (limits first) s) (all_right limits (first + 1) ss) h).0
rights_sound limits first (s ∷ ss) h (suc i) lt =
    ap (λ (n : ℕ). is_sender_right (limits n) (slice_index_or ss i nothing_told)) (shift first i)
    ∙ rights_sound limits (first + 1) ss
    (and_parts (is_sender_right (limits first) s) (all_right limits (first + 1) ss) h).1 i (omega (arith, lt))

pub rights_complete : (limits : ℕ → Option ℕ) (first : ℕ) (ss : List Sender)
    → ((i : ℕ) → i < length ss → RightAt limits first ss i) → all_right limits first ss ≡ true
rights_complete limits first [] h = refl
rights_complete limits first (s ∷ ss) h =
    and_from (is_sender_right (limits first) s) (all_right limits (first + 1) ss)
    (ap (λ (n : ℕ). is_sender_right (limits n) s) (sym (here first)) ∙ h 0 (omega arith))
    (rights_complete limits (first + 1) ss
    (λ i lt. ap (λ (n : ℕ). is_sender_right (limits n) (slice_index_or ss i nothing_told)) (sym (shift first i))
    ∙ h (suc i) (omega (arith, lt))))

pub ended_at : (hands_over : Bool) (limits : ℕ → Option ℕ) (first : ℕ) (ss : List Sender) (i : ℕ) → i < length ss
    → slice_index_or (all_ended hands_over limits first ss) i nothing_told
    ≡ with_end hands_over (limits (first + i)) (slice_index_or ss i nothing_told)
ended_at hands_over limits first [] i lt = absurd (omega (arith, lt))
ended_at hands_over limits first (s ∷ ss) zero lt =
    ap (λ (n : ℕ). with_end hands_over (limits n) s) (sym (here first))
ended_at hands_over limits first (s ∷ ss) (suc i) lt =
    ended_at hands_over limits (first + 1) ss i (omega (arith, lt))
    ∙ ap (λ (n : ℕ). with_end hands_over (limits n) (slice_index_or ss i nothing_told)) (sym (shift first i))

pub ended_size : (hands_over : Bool) (limits : ℕ → Option ℕ) (first : ℕ) (ss : List Sender)
    → length (all_ended hands_over limits first ss) ≡ length ss
ended_size hands_over limits first [] = refl
ended_size hands_over limits first (s ∷ ss) = ap suc (ended_size hands_over limits (first + 1) ss)
