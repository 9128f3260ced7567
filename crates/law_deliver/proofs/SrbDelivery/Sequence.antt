-- What goes up in a life are the SDUs before the first that hasn't come, as the PDUs of RLC tell.
use Rattle.std.proofs.Common.{◌≡◌, ◌<◌, ℕ, ◌+◌, ◌%◌, List, [], ◌∷◌, ◌++◌, length, map, take, true, false, refl, ap, sym}
use Rattle.std.proofs.Common.{◌∙◌, arith, append-nil, length-append}
use Rattle.std.specs.List.{AllByRecursion}
use Rattle.bearer.specs.Acknowledged.State.{State}
use Rattle.law_bearer.specs.AnyBearer.Sending.{sends_on}
use Rattle.law_rlc.specs.AmSender.Run.{Offer}
use Rattle.law_deliver.proofs.AmDelivery.Accounts.{passed_more}
use Rattle.law_deliver.proofs.AmDelivery.Arrived.{in_sequence_come}
use Rattle.law_deliver.proofs.AmFlow.Standing.{given_more, goes_more}
use Rattle.law_deliver.proofs.SrbDelivery.Going.{total, Goes}
use Rattle.law_deliver.proofs.SrbDelivery.Joined.{Way, flow_by, Joined, stands_so}
use Rattle.law_deliver.proofs.SrbDelivery.Laws.{front_of, way_there, way_back, lived}
use Rattle.law_deliver.proofs.SrbDelivery.Sending.{offers_all}
use Rattle.law_deliver.proofs.SrbDelivery.Taking.{pdus_from, pdus_both}
use Rattle.law_deliver.specs.AmFlow.Pair.{BearerEnd, Step, goes, am_pair_outset, HasOctet}
use Rattle.law_deliver.specs.SrbDelivery.Arrival.{GoUpInSequence}
use Rattle.law_deliver.specs.SrbDelivery.Life.{BothBegin, AreLived, near_ups, far_ups, near_submits, far_submits, over}
use Rattle.law_node.proofs.Offers.{tag_length}
use Rattle.law_pdcp.specs.OneEnd.Lives.{queue}
use Rattle.law_rlc.proofs.AmArrival.Laws.{tell_what_arrives}
use Rattle.law_rlc.proofs.AmPair.ByPlace.{has-ready}
use Rattle.law_rlc.proofs.AmPair.Laws.{sound}
use Rattle.law_rlc.proofs.AmPair.Sequence.{goes-up-in-sequence}
use Rattle.law_rlc.proofs.AmPair.Sound.{IsSound}
use Rattle.law_rlc.specs.AmArrival.Arrival.{passed}
use Rattle.law_rlc.specs.AmPair.Arrives.{arrives}
use Rattle.law_rlc.specs.AmPair.Flow.{Flow as Rlc, Step as RlcStep, goes as rlc_goes, am_rlc_outset}
use Rattle.law_rlc.specs.AmPair.Given.{AreGiven as AreGivenSteps}
use Rattle.law_rlc.specs.AmPair.Sdus.{offered, handed_up, ready}
use Rattle.law_rlc.specs.AmPair.Seen.{seen}
use Rattle.law_words.specs.Passing.{Passing, Told, nothing_told, with_passings}
use Rattle.law_words.specs.Stretches.{has_arrived}
use Rattle.pdcp_pdu.specs.Grammar.{srb_header}
use Rattle.pdcp_pdu.specs.declared.PdcpKind.TheVariants.{Srb}
use Rattle.pdcp_sec.proofs.Lengths.{length_ciphered_with}
use Rattle.pdcp_sec.specs.Protection.{Protection, ciphered_with}
use Rattle.pdcp_tx.specs.Pdus.{pdu, mac_i}
use Rattle.promises.specs.Sequence.{pdu_size, sdu_has_come, AreInSequence}

-- ---- the PDUs of SDUs

pdu_length : (p : Protection) (count : ℕ) (sdu : List ℕ) → length (pdu Srb p count sdu) ≡ pdu_size sdu
unfolding pdu
pdu_length p count sdu =
    let text = sdu ++ mac_i p count sdu in
    omega (
      arith,
      length-append (srb_header 0 (count % 32)) (ciphered_with p count text),
      length_ciphered_with p count text,
      length-append sdu (mac_i p count sdu),
      tag_length p count sdu,
    )

pdu_lengths : (p : Protection) (count : ℕ) (sdus : List (List ℕ))
    → map length (pdus_from p count sdus) ≡ map pdu_size sdus
pdu_lengths p count [] = refl
pdu_lengths p count (sdu ∷ sdus) =
    ap (λ (n : ℕ). n ∷ map length (pdus_from p (count + 1) sdus)) (pdu_length p count sdu)
    ∙ ap (λ (ns : List ℕ). pdu_size sdu ∷ ns) (pdu_lengths p (count + 1) sdus)

pdus_some : (p : Protection) (count : ℕ) (sdus : List (List ℕ)) → AllByRecursion HasOctet (pdus_from p count sdus)
pdus_some p count [] = tt
pdus_some p count (sdu ∷ sdus) =
    let size = pdu_length p count sdu in
    (omega (arith, size), pdus_some p (count + 1) sdus)

pdus_many : (p : Protection) (count : ℕ) (sdus : List (List ℕ)) → length (pdus_from p count sdus) ≡ length sdus
pdus_many p count [] = refl
pdus_many p count (sdu ∷ sdus) = let rest = pdus_many p (count + 1) sdus in omega (arith, rest)

front_taken : (xs ys : List (List ℕ)) → take (length xs) (xs ++ ys) ≡ xs
front_taken [] ys = refl
front_taken (x ∷ xs) ys = ap (λ (l : List (List ℕ)). x ∷ l) (front_taken xs ys)

-- ---- with what waits offered too, RLC's flow has been given all that was submitted, and nothing more has gone up

module _ (w : Way) (from to : BearerEnd) (sent up : List (List ℕ)) (j : Joined w from to sent up) where
  abbrev taken : List (List ℕ)
  taken = up ++ j.later

  abbrev waiting : List (List ℕ)
  waiting = queue from.bearer.pdcp.tx

  abbrev begun : Rlc
  begun = am_rlc_outset w.sending w.receiving

  abbrev more : List (List ℕ)
  more = pdus_from w.protection (w.first + length taken) waiting

  on : Goes (flow_by w j.steps) (sends_on (map (λ sdu. Offer sdu) more) from.bearer.tx) to.bearer.rx from.copies
      to.reports from.busy more [] []
  on =
      offers_all more (flow_by w j.steps) from.bearer.tx to.bearer.rx from.copies to.reports from.busy
      (pdus_some w.protection (w.first + length taken) waiting) (stands_so w from to sent up j)

  abbrev steps : List RlcStep
  steps = j.steps ++ on.steps

  given : AreGivenSteps begun steps
  given = given_more begun j.steps on.steps j.given on.given

  abbrev all : Rlc
  all = rlc_goes steps begun

  same : all ≡ rlc_goes on.steps (flow_by w j.steps)
  same = goes_more begun j.steps on.steps

  sound_all : IsSound all
  sound_all = sound w.sending w.receiving steps given

  offered_all : offered all ≡ pdus_from w.protection w.first sent
  offered_all =
      ap offered same ∙ on.offered_is ∙ ap (λ (l : List (List ℕ)). l ++ more) j.offered_is
      ∙ sym (pdus_both w.protection w.first taken waiting)
      ∙ ap (pdus_from w.protection w.first) (sym j.submitted_is)

  total_all : total all ≡ pdus_from w.protection w.first up
  total_all = ap total same ∙ on.total_is ∙ append-nil (total (flow_by w j.steps)) ∙ j.total_is

  many : length (total all) ≡ length up
  many = ap length total_all ∙ pdus_many w.protection w.first up

  told_all : with_passings (passed steps begun) nothing_told ≡ w.told
  told_all =
      ap (λ (l : List Passing). with_passings l nothing_told)
      (passed_more j.steps on.steps begun ∙ ap (λ (l : List Passing). passed j.steps begun ++ l) on.passed_is
      ∙ append-nil (passed j.steps begun))
      ∙ sym j.told_is

  arrives_is : (place : ℕ) → arrives all place ≡ sdu_has_come sent w.told place
  arrives_is place =
      tell_what_arrives w.sending w.receiving steps given place
      ∙ ap (λ (t : Told). has_arrived (map length (offered all)) t.fields t.came place) told_all
      ∙ ap (λ (l : List ℕ). has_arrived l w.told.fields w.told.came place)
      (ap (λ (l : List (List ℕ)). map length l) offered_all ∙ pdu_lengths w.protection w.first sent)

  stops : arrives all (length up) ≡ false
  stops =
      let sum = length-append (handed_up all) (ready all) in
      let place : length up ≡ length (handed_up all) + length (ready all) = sym many ∙ sum in
      ap (arrives all) place ∙ (has-ready all sound_all).stops

  comes : (k : ℕ) → k < length up → arrives all k ≡ true
  comes k lt =
      let e = ap length (goes-up-in-sequence all sound_all) in
      in_sequence_come (seen all) k (omega (arith, lt, many, e))

  pub goes_up_in_sequence : AreInSequence sent up w.told
  goes_up_in_sequence =
      let front = front_of w from to sent up j in
      record {
        next = length up;
        least = record {
          from = omega arith;
          refused = sym (arrives_is (length up)) ∙ stops;
          before = λ k low lt. sym (arrives_is k) ∙ comes k lt;
        };
        which = sym (ap (take (length up)) front.is ∙ front_taken up front.rest);
      }

pub delivers_in_sequence : (near far : State) (steps : List Step) → BothBegin near far
    → AreLived (am_pair_outset near far) steps → GoUpInSequence near far steps
delivers_in_sequence near far steps h g =
    let l = lived near far steps h g in
    let p = am_pair_outset near far in
    let q = goes steps p in
    record {
      there =
          goes_up_in_sequence (way_there near far steps) q.near q.far (over near_submits steps p)
          (over far_ups steps p) l.out;
      back =
          goes_up_in_sequence (way_back near far steps) q.far q.near (over far_submits steps p)
          (over near_ups steps p) l.inn;
    }
