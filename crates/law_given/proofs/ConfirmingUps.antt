-- A receiver hands up the SDUs that are in sequence by the history of its flow.
use Rattle.std.proofs.Common.{◌≡◌, ◌<◌, ◌≤◌, inl, inr, ℕ, zero, suc, ◌+◌, ◌-◌, Bool, true, false, ◌&&◌, ◌||◌}
use Rattle.std.proofs.Common.{if◌then◌else◌, List, [], ◌∷◌, map, length, Some, nat_lt, slice_get, slice_index}
use Rattle.std.proofs.Common.{slice_index_or, refl, ap, sym, ◌∙◌, arith, length-append}
use Rattle.std.specs.List.{AllByRecursion}
use Rattle.std.proofs.lemmas.Bool.{cases_lt, and_parts, and_from, lt-ltb, le-ltb, ltb-true}
use Rattle.std.proofs.lemmas.List.{length-map}
use Rattle.rlc_pdu.specs.Runs.{has}
use Rattle.journal_account.specs.Arrived.{octet_came, all_between}
use Rattle.journal_account.specs.FlowAccount.{account_of}
use Rattle.journal_account.specs.FlowArrivals.{field_at}
use Rattle.journal_account.specs.FlowEvents.{FlowEvent, IsHistory, field_sizes}
use Rattle.journal_account.specs.Stream.{place_of, came_along, place_came, sdu_sizes, sdu_end, is_whole_sdu}
use Rattle.journal_account.proofs.Accounts.{accounts_are_true}
use Rattle.journal_account.proofs.Complete.{complete_each}
use Rattle.law_words.specs.Stretches.{Stretch, all_from, octet_has_come}
use Rattle.law_words.specs.Stretches as words
use Rattle.law_words.specs.Passing.{Told}
use Rattle.law_rlc.specs.AmSender.Octets.{Place, Octets}
use Rattle.law_rlc.specs.AmReceiver.Run.{Came, place_has_come, covers}
use Rattle.law_rlc.specs.AmReceiver.Finish.{Place as Seen, all_come, octets_of}
use Rattle.law_rlc.specs.AmPair.Arrives.{arrives}
use Rattle.law_rlc.specs.AmPair.Fields.{cells_of}
use Rattle.law_rlc.specs.AmPair.Flow.{Flow, sender, receiver, goes, am_rlc_outset}
use Rattle.law_rlc.specs.AmPair.Sdus.{offered, handed_up, ready}
use Rattle.law_rlc.specs.AmPair.Seen.{seen, in_sequence}
use Rattle.law_rlc.proofs.AmPair.ByPlace.{has-ready}
use Rattle.law_rlc.proofs.AmPair.Laws.{sound}
use Rattle.law_rlc.proofs.AmPair.Parts.{cells-length}
use Rattle.law_rlc.proofs.AmPair.Sequence.{goes-up-in-sequence}
use Rattle.law_rlc.proofs.AmPair.Sound.{IsSound, IsKept}
use Rattle.law_rlc.proofs.AmArrival.Kept.{keeps_of, kept_below}
use Rattle.law_rlc.proofs.AmArrival.Laws.{arrives_as_told}
use Rattle.law_rlc.proofs.AmArrival.Places.{IsWithin, covered, come_covered, none_behind}
use Rattle.law_rlc.proofs.AmArrival.Telling.{TellsOf, lens_at}
use Rattle.law_account.specs.FlowReceiving.{IsReceiverOf}
use Rattle.law_given.specs.Confirming.{HandsUpAsTold, FlowsHandUpAsTold}
use Rattle.law_given.proofs.ConfirmingSizes.{place_next}
use Rattle.law_given.proofs.ConfirmingStream.{same_place, index_is, along_is, from_between, sequence_is}

-- ---- what the receiver has kept of a number is what has come of it

size_got : (sent : List (List Place)) (n : ℕ) → n < length sent
    → slice_get (map length sent) n ≡ Some (length (slice_index_or sent n []))
size_got [] n lt = absurd (omega (arith, lt))
size_got (ps ∷ sent) zero lt = refl
size_got (ps ∷ sent) (suc n) lt = size_got sent n (omega (arith, lt))

abbrev Fields : List FlowEvent → Octets → Type 0
Fields es p = field_sizes es ≡ map length p.sent

came_same : (most : ℕ) (f : Flow) (es : List FlowEvent) → IsSound f → IsHistory es → Fields es (sender f).past
    → IsReceiverOf most es (receiver f).state → (n i : ℕ) → n < length (sender f).past.sent
    → i < length (slice_index_or (sender f).past.sent n [])
    → place_has_come (receiver f).kept n i ≡ octet_came es n i
came_same most f es h history fields hears n i known lt =
    let arrivals = (accounts_are_true most es history).arrivals in
    let front = hears.front in
    elim (cases_lt n (receiver f).state.window.front) [
      | inl low ↦
          kept_below f n i h low lt
          ∙ sym (complete_each es n (length (slice_index_or (sender f).past.sent n [])) i
          (arrivals.front.before n (omega arith) (omega (arith, low, front)))
          (ap (λ (l : List ℕ). slice_get l n) fields ∙ size_got (sender f).past.sent n known) lt)
      | inr up ↦
          let at : (receiver f).state.window.front + (n - (receiver f).state.window.front) ≡ n = omega (arith, up) in
          let same : n - (receiver f).state.window.front ≡ n - (account_of most es).arrivals.front =
          omega (arith, front) in
          ap (λ (m : ℕ). place_has_come (receiver f).kept m i) (sym at)
          ∙ (sym (((keeps_of f).agrees.slots_match (n - (receiver f).state.window.front)).cells i)
          ∙ ((hears.numbers (n - (receiver f).state.window.front)).octets i
          ∙ (ap (λ (m : ℕ). has
          (field_at (account_of most es).arrivals.fields m).came i) same
          ∙ arrivals.came n i (omega (arith, up, front)))))
    ]

-- ---- as stretches of its field

abbrev stretch : Came → Stretch
stretch c = record { number = c.number; from = c.piece.so; size = length c.piece.cells }

abbrev told_of : Flow → Told
told_of f = record { fields = map length (sender f).past.sent; came = map stretch (receiver f).kept }

kept_within : (sent : List (List Place)) (kept : List Came) → AllByRecursion (IsKept sent) kept
    → AllByRecursion (IsWithin (map length sent)) (map stretch kept)
kept_within sent [] h = tt
kept_within sent (c ∷ kept) h =
    let known = h.0.known in
    let many = length-map sent length in
    let size = lens_at sent c.number in
    let cells = cells-length (slice_index_or sent c.number []) in (
      record {
        known = omega (arith, known, many);
        end' = by c.piece.last refl size cells;
      },
      kept_within sent kept h.1,
    )
  where
    by : (b : Bool) → c.piece.last ≡ b
        → slice_index (map length sent) c.number ≡ length (slice_index_or sent c.number [])
        → length (cells_of (slice_index_or sent c.number [])) ≡ length (slice_index_or sent c.number [])
        → c.piece.so + length c.piece.cells ≤ slice_index (map length sent) c.number
    by true e size cells = let x = h.0.part.last e in omega (arith, x, size, cells)
    by false e size cells = let x = h.0.part.on e in omega (arith, x, size, cells)

kept_covered : (kept : List Came) (n i : ℕ) → place_has_come kept n i ≡ covered (map stretch kept) n i
kept_covered [] n i = refl
kept_covered (c ∷ kept) n i =
    ap (λ (b : Bool). covers c n i || b) (kept_covered kept n i)

tells_kept : (f : Flow) → IsSound f → TellsOf f (told_of f)
tells_kept f h = record {
  fields = refl;
  within = kept_within (sender f).past.sent (receiver f).kept h.kept;
  same = λ n i known lt. kept_covered (receiver f).kept n i;
}

-- ---- SDUs

-- those in sequence have come
sequence_there : (sdus : List (List Seen)) (j : ℕ) → j < length (in_sequence sdus)
    → (nat_lt j (length sdus) && all_come (slice_index_or sdus j [])) ≡ true
sequence_there [] j lt = absurd (omega (arith, lt))
sequence_there (s ∷ sdus) zero lt =
    and_from (nat_lt 0 (length (s ∷ sdus))) (all_come s) (lt-ltb 0 (length (s ∷ sdus)) (omega arith))
    (by (all_come s) lt)
  where
    by : (b : Bool) → 0 < length (if b then octets_of s ∷ in_sequence sdus else []) → b ≡ true
    by true some = refl
    by false some = absurd (omega (arith, some))
sequence_there (s ∷ sdus) (suc j) lt = by (all_come s) lt (sequence_there sdus j)
  where
    by : (b : Bool) → suc j < length (if b then octets_of s ∷ in_sequence sdus else [])
        → (j < length (in_sequence sdus) → (nat_lt j (length sdus) && all_come (slice_index_or sdus j [])) ≡ true)
        → (nat_lt (suc j) (length (s ∷ sdus)) && all_come (slice_index_or sdus j [])) ≡ true
    by true few rest =
        let both = and_parts (nat_lt j (length sdus)) (all_come (slice_index_or sdus j []))
        (rest (omega (arith, few))) in
        let low = ltb-true j (length sdus) both.0 in
        and_from (nat_lt (suc j) (length (s ∷ sdus))) (all_come (slice_index_or sdus j []))
        (lt-ltb (suc j) (length (s ∷ sdus)) (omega (arith, low))) both.1
    by false few rest = absurd (omega (arith, few))

module _ (most : ℕ) (f : Flow) (es : List FlowEvent) (h : IsSound f) (history : IsHistory es)
    (fields : Fields es (sender f).past) (sizes : sdu_sizes es ≡ map length (offered f))
    (hears : IsReceiverOf most es (receiver f).state) where
  place_same : (p : ℕ) → octet_has_come (told_of f).fields (told_of f).came p ≡ place_came es p
  place_same p =
      let start : 0 + p ≡ p = omega arith in
      ap (octet_has_come (told_of f).fields (told_of f).came) (sym start)
      ∙ (along_is (octet_has_come (told_of f).fields (told_of f).came) (octet_came es) (told_of f).fields 0 0
      (λ j i known lt.
      let many = length-map (sender f).past.sent length in
      let size = index_is (told_of f).fields j in
      let long = lens_at (sender f).past.sent j in
      let place = same_place (told_of f).fields j in
      let at : 0 + place_of (told_of f).fields j + i ≡ words.place_of (told_of f).fields j + i = omega (arith, place) in
      let number : j ≡ 0 + j = omega arith in
      ap (octet_has_come (told_of f).fields (told_of f).came) at
      ∙ (come_covered (told_of f).fields (told_of f).came j i (tells_kept f h).within known (omega (arith, lt, size))
      ∙ (sym (kept_covered (receiver f).kept j i)
      ∙ (came_same most f es h history fields hears j i (omega (arith, known, many)) (omega (arith, lt, size, long))
      ∙ ap (λ (m : ℕ). octet_came es m i) number))))
      (λ q far.
      let place = same_place (told_of f).fields (length (told_of f).fields) in
      none_behind (told_of f).fields (told_of f).came q (tells_kept f h).within (omega (arith, far, place)))
      p
      ∙ sym (ap (λ (l : List ℕ). came_along (octet_came es) l 0 p) fields))

  whole_same : (k : ℕ) → arrives f k ≡ is_whole_sdu es k
  whole_same k =
      arrives_as_told f (told_of f) h (tells_kept f h) k
      ∙ (ap (λ (l : List ℕ). nat_lt k (length l)
      && all_from (octet_has_come (told_of f).fields (told_of f).came) (words.place_of l k) (slice_index l k))
      (sym sizes) ∙ elim (cases_lt k (length (sdu_sizes es))) [
        | inl lt ↦
            let place = same_place (sdu_sizes es) k in
            let size = index_is (sdu_sizes es) k in
            let end' = place_next (sdu_sizes es) k lt in
            ap (λ (b : Bool). nat_lt k (length (sdu_sizes es)) && b)
            (ap (λ (i : ℕ). all_from (octet_has_come (told_of f).fields (told_of f).came) i
            (slice_index (sdu_sizes es) k)) place
            ∙ from_between (octet_has_come (told_of f).fields (told_of f).came) (place_came es)
            (place_of (sdu_sizes es) k) (slice_index (sdu_sizes es) k) (sdu_end es k) (omega (arith, end', size))
            place_same)
        | inr le ↦
            let none = le-ltb k (length (sdu_sizes es)) le in
            ap (λ (b : Bool). b && all_from (octet_has_come (told_of f).fields (told_of f).came)
            (words.place_of (sdu_sizes es) k) (slice_index (sdu_sizes es) k)) none
            ∙ sym (ap (λ (b : Bool). b
            && all_between (place_came es) (place_of (sdu_sizes es) k) (sdu_end es k)) none)
      ])

  first_arrive : (j : ℕ) → j < length (handed_up f) + length (ready f) → arrives f j ≡ true
  first_arrive j lt =
      let all = ap {B = ℕ} (λ (xs : List (List ℕ)). length xs) (goes-up-in-sequence f h) in
      let both = length-append (handed_up f) (ready f) in
      sequence_there (seen f) j (omega (arith, lt, all, both))

  hands_up : HandsUpAsTold f es
  hands_up = record {
    in_sequence = sequence_is (sdu_sizes es) (place_came es) (length (handed_up f) + length (ready f))
        (λ j lt. sym (whole_same j) ∙ first_arrive j lt)
        (sym (whole_same (length (handed_up f) + length (ready f))) ∙ (has-ready f h).stops);
    whole = λ k. sym (whole_same k);
  }

pub hands_up_as_told : FlowsHandUpAsTold
hands_up_as_told sending receiving steps given =
    λ most es sizes ends.
    hands_up most (goes steps (am_rlc_outset sending receiving)) es (sound sending receiving steps given)
    ends.follows.history sizes.fields sizes.sdus ends.hears
