-- The history of each direction goes on beside both ends.
use Rattle.std.proofs.Common.{◌≡◌, ◌⊎◌, inl, inr, ◌<◌, ◌≤◌, ℕ, zero, suc, ◌+◌, ◌*◌, ◌%◌, ◌^◌, false, List, [], ◌∷◌}
use Rattle.std.proofs.Common.{◌++◌, map, max, length, get_or, Contains, Option, Some, None, Result, Ok, slice_get}
use Rattle.std.proofs.Common.{unwrap_or}
use Rattle.std.proofs.Common.{length-append, append-nil, refl, ap, sym, subst, ◌∙◌, arith}
use Rattle.std.proofs.lemmas.Bool.Decides.{nat_tests}
use Rattle.std.specs.List.{AllByRecursion}
use Rattle.eps_sec.specs.declared.Keys.{Keys}
use Rattle.rlc_pdu.specs.declared.RlcRefusal.{RlcRefusal}
use Rattle.rlc_pdu.specs.Pdus.{UmdPdu, IsUmBits}
use Rattle.rlc_pdu.specs.Reading.{umd_at}
use Rattle.rlc_pdu.specs.Writing.{umd_canonical}
use Rattle.rlc_pdu.proofs.Again.{umd_again}
use Rattle.rlc_um.specs.Receiver.{State as Receiver}
use Rattle.rlc_um.specs.Sender.{Sender, Turn, Gives, IsIdle, IsHeld as TurnsHeld, IsSmall, width_of, is_held, turn}
use Rattle.rlc_um.specs.Sender.{pdu_of, answer, after_turn, taken as rlc_taken, after_take, offered}
use Rattle.bearer.specs.Unacknowledged.State.{State}
use Rattle.bearer.specs.Unacknowledged.Lives.{stopped, restarted}
use Rattle.bearer.specs.Unacknowledged.Taking.{feeding, size_in, answer as um_answer, after_taking}
use Rattle.bearer.specs.Taking.{after as taken_from}
use Rattle.bearer.specs.declared.flow.Flow.TheVariants.{Um}
use Rattle.journal_account.specs.FlowEvents.{FlowEvent, SduTaken, next_of, field_sizes}
use Rattle.journal_flows.specs.UmPdus.{place_next}
use Rattle.journal_um.specs.declared.pieces.Piece.{Piece}
use Rattle.journal_um.specs.UmEvents.{UmEvent, PduArrived, ReorderStarted, ReorderExpired, UmLifeEvent, InLife, running}
use Rattle.journal_um.specs.UmLosses.{highest_in}
use Rattle.law_bearer.specs.AnyBearer.Calls.{Call, Submit, Take, Arrive, Expire, Tick, SetDiscard}
use Rattle.law_bearer.specs.AnyBearer.Stream.{takes, pdu_of as pdcp_pdu, um_offered}
use Rattle.law_bearer.proofs.AnyBearer.Flows.{is_offered}
use Rattle.law_rlc.specs.AmPair.Flow.{Copy, copies_with}
use Rattle.law_rlc.specs.AmPair.Given.{IsHeld}
use Rattle.law_deliver.specs.AmFlow.Reordering.{Reordering, Starts, Expires, reordering_in}
use Rattle.law_deliver.specs.UmFlow.Handing.{tells}
use Rattle.law_deliver.specs.UmFlow.Lives.{BeginsLife}
use Rattle.law_deliver.specs.UmFlow.Pair.{BearerEnd, Pair, Deed, Calls, Comes, Goes, Step, Near, Far, called, comes}
use Rattle.law_deliver.specs.UmFlow.Pair.{does, happens, begins, HasOctet, IsTaking, IsCalling}
use Rattle.law_deliver.specs.UmFlow.Pair.{IsDone, IsGiven}
use Rattle.law_deliver.proofs.UmFlow.Flows.{all_at, does_bits}
use Rattle.law_deliver.proofs.UmFlow.Lives.{begins_anew}
use Rattle.law_deliver.proofs.UmFlow.Numbers.{at_left, at_last, is_below}
use Rattle.law_deliver.proofs.UmFlow.Sending.{called_alike, arrival_sends}
use Rattle.law_deliver.proofs.UmFlow.Standing.{turn_given, in_range, still_recent, some_numbers, each_except}
use Rattle.law_um.specs.UmSending.{IsUmSenderOf, with_pdu}
use Rattle.law_um.specs.UmTimers.{Coming, event_of, with_events, IsReadOf, Brings, IsUmBeside}
use Rattle.law_um.specs.UmWriting.{pieces_of}
use Rattle.law_um.specs.UmLived.{UmHistory, with_sdus, written_by, takes_by, sends_in, hears_by, coming}
use Rattle.law_um.specs.UmLived.{hears_copy, hears_in, behind_there, behind_back, behind_life}
use Rattle.law_um.specs.UmLived.{IsUnderWay, ComeAsWritten, IsLived, AreLived, AreInPlace, behind_pieces}
use Rattle.law_um.specs.UmLived.{UmPairsBegin, UmPairsAreLived}
use Rattle.law_um.specs.UmLived.{UmPairsLiveOn}
use Rattle.law_um.proofs.UmLivedPlaces.{later_place, place_stays, place_more, own_placed, own_behind}
use Rattle.law_um.proofs.UmSending.{um_senders_begin, um_offers_are_told, um_pdus_are_told}
use Rattle.law_um.proofs.UmTimers.{um_bearers_begin_beside, um_bearers_go_on_beside, um_bearers_live_on_beside}
use Rattle.law_um.proofs.UmWriting.{pdus_keep_pieces}

-- ---- what comes in a life

first_or_later : (x y : UmEvent) (ys : List UmEvent) (k : ℕ) → k < length (y ∷ ys) → get_or (y ∷ ys) k x ≡ x
    → (y ≡ x) ⊎ Contains ys x
first_or_later x y ys zero lt e = inl e
first_or_later x y ys (suc k) lt e = inr (k, omega (arith, lt), e)

highest_stays : (width : ℕ) (written : List (List Piece)) (es : List UmEvent) → highest_in es ≤ length written
    → max (highest_in es) 0 ≤ length written
highest_stays width written es low = grind (arith, nat_tests, low)

told_as : (width : ℕ) (written : List (List Piece)) (r : Reordering) (es : List UmEvent)
    → ComeAsWritten width written es → ComeAsWritten width written (event_of r ∷ es)
told_as width written Starts es h = record {
  carry = λ n pieces c. elim (first_or_later (PduArrived n pieces) ReorderStarted es c.0 c.1 c.2) [
    | inl same ↦ absurd cc
    | inr old ↦ h.carry n pieces old
  ];
  in_time = (tt, h.in_time);
  highest = highest_stays width written es h.highest;
}
told_as width written Expires es h = record {
  carry = λ n pieces c. elim (first_or_later (PduArrived n pieces) ReorderExpired es c.0 c.1 c.2) [
    | inl same ↦ absurd cc
    | inr old ↦ h.carry n pieces old
  ];
  in_time = (tt, h.in_time);
  highest = highest_stays width written es h.highest;
}

all_told : (width : ℕ) (written : List (List Piece)) (told : List Reordering) (es : List UmLifeEvent)
    → ComeAsWritten width written (running es)
    → ComeAsWritten width written (running (with_events (map event_of told) es))
all_told width written [] es h = h
all_told width written (r ∷ told) es h =
    all_told width written told (InLife (event_of r) ∷ es) (told_as width written r (running es) h)

same_number : (number n : ℕ) (own pieces : List Piece) → PduArrived number own ≡ PduArrived n pieces → number ≡ n
same_number number n own pieces e = cc

same_pieces : (number n : ℕ) (own pieces : List Piece) → PduArrived number own ≡ PduArrived n pieces → own ≡ pieces
same_pieces number n own pieces e = cc

most : (a b n : ℕ) → a ≤ n → b < n → max a (b + 1) ≤ n
most a b n x y = grind (arith, nat_tests)

-- one that is under way comes in time
comes_as : (width : ℕ) (written : List (List Piece)) (number : ℕ) (pieces : List Piece) (es : List UmEvent)
    → slice_get written number ≡ Some pieces → length written ≤ number + width
    → ComeAsWritten width written es → ComeAsWritten width written (PduArrived number pieces ∷ es)
comes_as width written number pieces es is young h =
    let highest = h.highest in
    record {
      carry = λ n own c. elim (first_or_later (PduArrived n own) (PduArrived number pieces) es c.0 c.1 c.2) [
        | inl same ↦ ap (slice_get written) (sym (same_number number n pieces own same)) ∙ is
            ∙ ap (λ (l : List Piece). Some l) (same_pieces number n pieces own same)
        | inr old ↦ h.carry n own old
      ];
      in_time = (omega (arith, highest, young), h.in_time);
      highest = most (highest_in es) number (length written) highest (is_below written number pieces is);
    }

more_written : (width : ℕ) (written : List (List Piece)) (pieces : List Piece) (es : List UmEvent)
    → ComeAsWritten width written es → ComeAsWritten width (written ++ pieces ∷ []) es
more_written width written pieces es h =
    let highest = h.highest in
    record {
      carry = λ n own c. at_left written (pieces ∷ []) n own (h.carry n own c);
      in_time = h.in_time;
      highest = omega (arith, highest, length-append written (pieces ∷ []));
    }

-- ---- the end that sends

record Sends (bits : ℕ) (tx : Sender) (copies : List Copy) (h : UmHistory) : Type 0 where
  bits_are : tx.bits ≡ bits
  sender : IsUmSenderOf h.sent tx
  numbers : next_of h.sent ≡ length h.written
  places : AreInPlace 0 h.written (place_next h.sent)
  under_way : AllByRecursion (IsUnderWay bits h.written) copies
  come : ComeAsWritten (width_of bits) h.written (running h.come)

-- RLC takes SDUs

with_sdu : (bits : ℕ) (tx : Sender) (copies : List Copy) (h : UmHistory) (sdu : List ℕ) → 0 < length sdu
    → Sends bits tx copies h
    → Sends bits (offered sdu tx) copies (record h { sent = SduTaken (length sdu) ∷ h.sent })
with_sdu bits tx copies h sdu some s = record {
  bits_are = s.bits_are;
  sender = um_offers_are_told h.sent tx sdu some s.sender;
  numbers = ap length (append-nil (field_sizes h.sent)) ∙ s.numbers;
  places = later_place 0 h.written (place_next h.sent) (place_next (SduTaken (length sdu) ∷ h.sent))
      (place_stays h.sent (length sdu)) s.places;
  under_way = s.under_way;
  come = s.come;
}

with_all_sdus : (bits : ℕ) (sdus : List (List ℕ)) (tx : Sender) (copies : List Copy) (h : UmHistory)
    → AllByRecursion HasOctet sdus → Sends bits tx copies h
    → Sends bits (um_offered sdus tx) copies (record h { sent = with_sdus sdus h.sent })
with_all_sdus bits [] tx copies h some s = s
with_all_sdus bits (sdu ∷ sdus) tx copies h some s =
    with_all_sdus bits sdus (offered sdu tx) copies (record h { sent = SduTaken (length sdu) ∷ h.sent }) some.1
    (with_sdu bits tx copies h sdu some.0 s)

-- it writes a PDU

many_numbers : (bits : ℕ) → IsUmBits bits → 2 ^ bits ≡ 2 * width_of bits
many_numbers bits (inl e) = subst (λ (b : ℕ). 2 ^ b ≡ 2 * width_of b) (sym e) refl
many_numbers bits (inr e) = subst (λ (b : ℕ). 2 ^ b ≡ 2 * width_of b) (sym e) refl

still_under_way : (bits : ℕ) (tx : Sender) (held : Option ℕ) (written : List (List Piece)) (pieces : List Piece)
    (cs : List Copy) → tx.bits ≡ bits → is_held held tx ≡ false → tx.next ≡ length written
    → AllByRecursion (IsHeld held) cs → AllByRecursion (IsUnderWay bits written) cs
    → AllByRecursion (IsUnderWay bits (written ++ pieces ∷ [])) cs
still_under_way bits tx held written pieces [] b free e low h = tt
still_under_way bits tx held written pieces (c ∷ cs) b free e low h =
    let still : length written + 1 ≤ c.number + width_of bits =
    subst (λ (n : ℕ). length written + 1 ≤ c.number + width_of n) b
    (still_recent tx held (length written) c free low.0 e) in (
      record {
        pdu = h.0.pdu;
        read = h.0.read;
        sn = h.0.sn;
        place = h.0.place;
        are_written = at_left written (pieces ∷ []) c.number (pieces_of h.0.place h.0.pdu) h.0.are_written;
        carries = h.0.carries;
        young = omega (arith, still, length-append written (pieces ∷ []));
      },
      still_under_way bits tx held written pieces cs b free e low.1 h.1,
    )

new_under_way : (bits : ℕ) (tx : Sender) (size : ℕ) (held : Option ℕ) (place : ℕ) (written : List (List Piece))
    → IsUmBits bits → tx.bits ≡ bits → (es : List FlowEvent) → IsUmSenderOf es tx → turn tx size held ≡ Gives
    → tx.next ≡ length written
    → IsUnderWay bits (written ++ pieces_of place (pdu_of tx size) ∷ [])
    (record { number = tx.next; octets = umd_canonical tx.bits (pdu_of tx size) })
new_under_way bits tx size held place written u b es s gives e =
    let p = pdu_of tx size in
    let own = pieces_of place p in
    let v : IsUmBits tx.bits = subst IsUmBits (sym b) u in
    let r = in_range tx size held v s.some (turn_given tx size held gives) in
    let framing : p.fi < 2 ^ 2 = r.framing in
    let wide = some_numbers bits u in
    record {
      pdu = p;
      read = subst (λ (n : ℕ). umd_at n (umd_canonical tx.bits p) ≡ Ok p) b (umd_again tx.bits p v r).read;
      sn = ap (λ (n : ℕ). tx.next % n) (ap (λ (n : ℕ). 2 ^ n) b ∙ many_numbers bits u);
      place = place;
      are_written = subst (λ (n : ℕ). slice_get (written ++ own ∷ []) n ≡ Some own) (sym e) (at_last written own);
      carries = pdus_keep_pieces place p (omega (arith, framing));
      young = omega (arith, wide, e, length-append written (own ∷ []));
    }

takes_turn : (t : Turn) (bits : ℕ) (tx : Sender) (copies : List Copy) (h : UmHistory) (size : ℕ) (held : Option ℕ)
    → turn tx size held ≡ t → IsUmBits bits → AllByRecursion (IsHeld held) copies → Sends bits tx copies h
    → Sends bits (after_turn t tx size) (copies_with (answer t tx size) copies) (written_by t tx size h)
takes_turn IsIdle bits tx copies h size held q u low s = s
takes_turn TurnsHeld bits tx copies h size held q u low s = s
takes_turn IsSmall bits tx copies h size held q u low s = s
takes_turn Gives bits tx copies h size held q u low s =
    let own = pieces_of (place_next h.sent) (pdu_of tx size) in
    let w = um_pdus_are_told h.sent tx size held q s.sender in
    let before = s.sender.next in
    let behind = w.behind.next in
    let numbers' = s.numbers in
    let next : tx.next ≡ length h.written = before ∙ numbers' in
    record {
      bits_are = s.bits_are;
      sender = w.behind;
      numbers = omega (arith, before, behind, numbers', length-append h.written (own ∷ []));
      places = place_more h.written 0 (place_next h.sent) (place_next (with_pdu tx size h.sent)) own s.places
          (own_placed (place_next h.sent) (pdu_of tx size))
          (subst (λ (n : ℕ). behind_pieces (place_next h.sent) own ≤ n) (sym w.place)
          (own_behind (place_next h.sent) (pdu_of tx size)));
      under_way = (
        new_under_way bits tx size held (place_next h.sent) h.written u s.bits_are h.sent s.sender q next,
        still_under_way bits tx held h.written own copies s.bits_are (turn_given tx size held q).free next low
            s.under_way,
      );
      come = more_written (width_of bits) h.written own (running h.come) s.come;
    }

module _ (bits : ℕ) (u : IsUmBits bits) where
  takes_on : (e : BearerEnd) (share : ℕ) (held : Option ℕ) (h : UmHistory) → IsTaking e share held
      → Sends bits e.bearer.tx e.copies h
      → Sends bits (called e.bearer (Take share held)).tx (copies_with (um_answer e.bearer share held) e.copies)
      (takes_by e.bearer share held h)
  unfolding taken_from after_taking um_answer after_take rlc_taken
  takes_on e share held h t s =
      let b = e.bearer in
      let tx = (feeding b share held).tx in
      let sdus : List (List ℕ) = map (pdcp_pdu b.pdcp.tx) (takes (Um b) (Take share held)) in
      let fed : UmHistory = record h { sent = with_sdus sdus h.sent } in
      takes_turn (turn tx (size_in share) held) bits tx e.copies fed (size_in share) held refl u t.lowest
      (subst (λ (x : Sender). Sends bits x e.copies fed) (sym (is_offered (Um b) share held))
      (with_all_sdus bits sdus b.tx e.copies h t.some s))

  -- the sender stays as it is
  rests_on : (tx left : Sender) (copies : List Copy) (h : UmHistory) → left ≡ tx → Sends bits tx copies h
      → Sends bits left copies h
  rests_on tx left copies h e s = subst (λ (x : Sender). Sends bits x copies h) (sym e) s

  comes_on : (e : BearerEnd) (o : Option Copy) (h : UmHistory) → Sends bits e.bearer.tx e.copies h
      → Sends bits (comes e o).bearer.tx (comes e o).copies h
  comes_on e None h s = s
  comes_on e (Some c) h s =
      rests_on e.bearer.tx (comes e (Some c)).bearer.tx e.copies h (arrival_sends e.bearer c.octets) s

  sends_on : (to e : BearerEnd) (d : Deed) (h : UmHistory) → IsDone e d → Sends bits e.bearer.tx e.copies h
      → Sends bits (does to e d).bearer.tx (does to e d).copies (sends_in e d h)
  sends_on to e (Calls (Submit sdu)) h g s =
      rests_on e.bearer.tx (called e.bearer (Submit sdu)).tx e.copies h
      (called_alike e.bearer (Submit sdu) tt).tx_is s
  sends_on to e (Calls (Take share held)) h g s = takes_on e share held h g s
  sends_on to e (Calls (Arrive pdu)) h g s = absurd g
  sends_on to e (Calls (Expire clock)) h g s =
      rests_on e.bearer.tx (called e.bearer (Expire clock)).tx e.copies h
      (called_alike e.bearer (Expire clock) tt).tx_is s
  sends_on to e (Calls Tick) h g s =
      rests_on e.bearer.tx (called e.bearer Tick).tx e.copies h (called_alike e.bearer Tick tt).tx_is s
  sends_on to e (Calls (SetDiscard ttis)) h g s =
      rests_on e.bearer.tx (called e.bearer (SetDiscard ttis)).tx e.copies h
      (called_alike e.bearer (SetDiscard ttis) tt).tx_is s
  sends_on to e (Comes k) h g s = comes_on e (slice_get to.copies k) h s
  sends_on to e (Goes k) h g s = record {
    bits_are = s.bits_are;
    sender = s.sender;
    numbers = s.numbers;
    places = s.places;
    under_way = each_except (IsUnderWay bits h.written) k e.copies s.under_way;
    come = s.come;
  }

  -- ---- the end that hears

  record Hears (many : ℕ) (b : State) (h : UmHistory) : Type 0 where
    bits_are : b.bits ≡ bits
    receiver : IsUmBeside (width_of bits) many h.up b.rx h.come
    come : ComeAsWritten (width_of bits) h.written (running h.come)

  no_bits : (b : State) (c : Call) → (called b c).bits ≡ b.bits
  no_bits b c = does_bits (begins b) (begins b) (Calls c)

  call_heard : (many : ℕ) (b : State) (c : Call) (h : UmHistory) → Brings (width_of bits) b c None → Hears many b h
      → Hears many (called b c) (hears_by b c None h)
  call_heard many b c h is s = record {
    bits_are = no_bits b c ∙ s.bits_are;
    receiver = um_bearers_go_on_beside (width_of bits) many h.up b c None h.come is s.receiver;
    come = all_told (width_of bits) h.written (reordering_in (tells b c)) h.come s.come;
  }

  -- a PDU that is under way
  arrival_heard : (many : ℕ) (b : State) (c : Copy) (h : UmHistory) → IsUnderWay bits h.written c → Hears many b h
      → Hears many (called b (Arrive c.octets)) (hears_by b (Arrive c.octets) (Some (coming c h)) h)
  arrival_heard many b c h k s =
      let width : ℕ = width_of bits in
      let own = pieces_of k.place k.pdu in
      let p : Coming = record { number = c.number; pieces = own } in
      let same : coming c h ≡ p =
      ap (λ (o : Option (List Piece)). record { number = c.number; pieces = unwrap_or o [] }) k.are_written in
      let read : umd_at b.bits c.octets ≡ Ok k.pdu = ap (λ (n : ℕ). umd_at n c.octets) s.bits_are ∙ k.read in
      let brings : Brings width b (Arrive c.octets) (Some p) =
      subst (λ (r : Result UmdPdu RlcRefusal). IsReadOf width r (Some p)) (sym read) (k.sn, k.carries.octets) in
      let told = reordering_in (tells b (Arrive c.octets)) in
      subst (λ (x : Coming). Hears many (called b (Arrive c.octets)) (hears_by b (Arrive c.octets) (Some x) h))
      (sym same)
      (record {
        bits_are = no_bits b (Arrive c.octets) ∙ s.bits_are;
        receiver = um_bearers_go_on_beside width many h.up b (Arrive c.octets) (Some p) h.come brings s.receiver;
        come = all_told width h.written told (InLife (PduArrived c.number own) ∷ h.come)
            (comes_as width h.written c.number own (running h.come) k.are_written k.young s.come);
      })

  none_brought : (e : BearerEnd) (c : Call) → IsCalling e c → Brings (width_of bits) e.bearer c None
  none_brought e (Submit sdu) g = refl
  none_brought e (Take share held) g = refl
  none_brought e (Arrive pdu) g = absurd g
  none_brought e (Expire clock) g = refl
  none_brought e Tick g = refl
  none_brought e (SetDiscard ttis) g = refl

  copy_heard : (many : ℕ) (copies : List Copy) (k : ℕ) (o : Option Copy) (e : BearerEnd) (h : UmHistory)
      → slice_get copies k ≡ o → AllByRecursion (IsUnderWay bits h.written) copies → Hears many e.bearer h
      → Hears many (comes e o).bearer (hears_copy e.bearer o h)
  copy_heard many copies k None e h q all s = s
  copy_heard many copies k (Some c) e h q all s =
      arrival_heard many e.bearer c h (all_at (IsUnderWay bits h.written) copies k c all q) s

  hears_on : (many : ℕ) (from e : BearerEnd) (d : Deed) (h : UmHistory) → IsDone e d
      → AllByRecursion (IsUnderWay bits h.written) from.copies → Hears many e.bearer h
      → Hears many (does from e d).bearer (hears_in from e d h)
  hears_on many from e (Calls c) h g all s = call_heard many e.bearer c h (none_brought e c g) s
  hears_on many from e (Comes k) h g all s =
      copy_heard many from.copies k (slice_get from.copies k) e h refl all s
  hears_on many from e (Goes k) h g all s = s

  -- what a step at the end that hears doesn't change
  record SentAlike (h j : UmHistory) : Type 0 where
    sent_is : j.sent ≡ h.sent
    written_is : j.written ≡ h.written

  copy_alike : (b : State) (o : Option Copy) (h : UmHistory) → SentAlike h (hears_copy b o h)
  copy_alike b None h = record { sent_is = refl; written_is = refl }
  copy_alike b (Some c) h = record { sent_is = refl; written_is = refl }

  hears_alike : (from e : BearerEnd) (d : Deed) (h : UmHistory) → SentAlike h (hears_in from e d h)
  hears_alike from e (Calls c) h = record { sent_is = refl; written_is = refl }
  hears_alike from e (Comes k) h = copy_alike e.bearer (slice_get from.copies k) h
  hears_alike from e (Goes k) h = record { sent_is = refl; written_is = refl }

  -- and one at the end that sends
  record CameAlike (h j : UmHistory) : Type 0 where
    come_is : j.come ≡ h.come
    up_is : j.up ≡ h.up

  turn_alike : (t : Turn) (tx : Sender) (size : ℕ) (h : UmHistory) → CameAlike h (written_by t tx size h)
  turn_alike Gives tx size h = record { come_is = refl; up_is = refl }
  turn_alike IsIdle tx size h = record { come_is = refl; up_is = refl }
  turn_alike TurnsHeld tx size h = record { come_is = refl; up_is = refl }
  turn_alike IsSmall tx size h = record { come_is = refl; up_is = refl }

  takes_alike : (b : State) (share : ℕ) (held : Option ℕ) (h : UmHistory) → CameAlike h (takes_by b share held h)
  takes_alike b share held h =
      let tx = (feeding b share held).tx in
      let fed : UmHistory =
      record h { sent = with_sdus (map (pdcp_pdu b.pdcp.tx) (takes (Um b) (Take share held))) h.sent } in
      let t = turn_alike (turn tx (size_in share) held) tx (size_in share) fed in
      record { come_is = t.come_is; up_is = t.up_is }

  sends_alike : (e : BearerEnd) (d : Deed) (h : UmHistory) → CameAlike h (sends_in e d h)
  sends_alike e (Calls (Submit sdu)) h = record { come_is = refl; up_is = refl }
  sends_alike e (Calls (Take share held)) h = takes_alike e.bearer share held h
  sends_alike e (Calls (Arrive pdu)) h = record { come_is = refl; up_is = refl }
  sends_alike e (Calls (Expire clock)) h = record { come_is = refl; up_is = refl }
  sends_alike e (Calls Tick) h = record { come_is = refl; up_is = refl }
  sends_alike e (Calls (SetDiscard ttis)) h = record { come_is = refl; up_is = refl }
  sends_alike e (Comes k) h = record { come_is = refl; up_is = refl }
  sends_alike e (Goes k) h = record { come_is = refl; up_is = refl }

  -- ---- a step

  sends_lived : (many : ℕ) (from to : BearerEnd) (d : Deed) (h : UmHistory) → IsDone from d
      → IsLived bits many from to h → IsLived bits many (does to from d) to (sends_in from d h)
  sends_lived many from to d h g s =
      let n = sends_on to from d h g (record {
        bits_are = s.from_bits;
        sender = s.sender;
        numbers = s.numbers;
        places = s.places;
        under_way = s.under_way;
        come = s.come;
      }) in
      let a = sends_alike from d h in
      record {
        from_bits = n.bits_are;
        to_bits = s.to_bits;
        sender = n.sender;
        numbers = n.numbers;
        places = n.places;
        under_way = n.under_way;
        receiver =
            subst (λ (up : List (List ℕ)).
            IsUmBeside (width_of bits) many up to.bearer.rx (sends_in from d h).come) (sym a.up_is)
            (subst (IsUmBeside (width_of bits) many h.up to.bearer.rx) (sym a.come_is) s.receiver);
        come = n.come;
      }

  hears_lived : (many : ℕ) (from to : BearerEnd) (d : Deed) (h : UmHistory) → IsDone to d
      → IsLived bits many from to h → IsLived bits many from (does from to d) (hears_in from to d h)
  hears_lived many from to d h g s =
      let n = hears_on many from to d h g s.under_way
      (record { bits_are = s.to_bits; receiver = s.receiver; come = s.come }) in
      let a = hears_alike from to d h in
      record {
        from_bits = s.from_bits;
        to_bits = n.bits_are;
        sender = subst (λ (es : List FlowEvent). IsUmSenderOf es from.bearer.tx) (sym a.sent_is) s.sender;
        numbers = ap next_of a.sent_is ∙ s.numbers ∙ ap length (sym a.written_is);
        places = subst (λ (l : List (List Piece)). AreInPlace 0 l (place_next (hears_in from to d h).sent))
            (sym a.written_is)
            (subst (λ (es : List FlowEvent). AreInPlace 0 h.written (place_next es)) (sym a.sent_is) s.places);
        under_way = subst (λ (l : List (List Piece)). AllByRecursion (IsUnderWay bits l) from.copies)
            (sym a.written_is) s.under_way;
        receiver = n.receiver;
        come = n.come;
      }

  step_lived : (many : ℕ) (p : Pair) (s : Step) (there back : UmHistory) → IsGiven p s
      → AreLived bits many p there back
      → AreLived bits many (happens p s) (behind_there p s there) (behind_back p s back)
  step_lived many p (Near d) there back g h = record {
    there_is = sends_lived many p.near p.far d there g h.there_is;
    back_is = hears_lived many p.far p.near d back g h.back_is;
  }
  step_lived many p (Far d) there back g h = record {
    there_is = hears_lived many p.near p.far d there g h.there_is;
    back_is = sends_lived many p.far p.near d back g h.back_is;
  }

pub um_pairs_are_lived : UmPairsAreLived
um_pairs_are_lived bits many p [] there back u h g = h
um_pairs_are_lived bits many p (s ∷ ss) there back u h g =
    um_pairs_are_lived bits many (happens p s) ss (behind_there p s there) (behind_back p s back) u
    (step_lived bits u many p s there back g.0 h) g.1

-- ---- lives

none_came : (width : ℕ) (written : List (List Piece)) → ComeAsWritten width written []
none_came width written =
    record { carry = λ n pieces c. absurd (omega (arith, c.1)); in_time = tt; highest = omega arith }

way_begins : (bits many reorder reorder' : ℕ) (from to : State) (up : List (List ℕ)) (es : List UmLifeEvent)
    → BeginsLife bits reorder from → BeginsLife bits reorder' to → running es ≡ []
    → IsUmBeside (width_of bits) many up to.rx es
    → IsLived bits many (begins from) (begins to) (record { sent = []; written = []; come = es; up = up })
way_begins bits many reorder reorder' from to up es f t none is = record {
  from_bits = ap (λ (s : Sender). s.bits) f.sends;
  to_bits = t.bits_are;
  sender = subst (IsUmSenderOf []) (sym f.sends) (um_senders_begin bits);
  numbers = refl;
  places = omega arith;
  under_way = tt;
  receiver = is;
  come = subst (ComeAsWritten (width_of bits) []) (sym none) (none_came (width_of bits) []);
}

begins_beside : (bits many reorder : ℕ) (b : State) → BeginsLife bits reorder b
    → IsUmBeside (width_of bits) many [] b.rx []
begins_beside bits many reorder b h =
    subst (λ (r : Receiver). IsUmBeside (width_of bits) many [] r []) (sym h.receives)
    (um_bearers_begin_beside (width_of bits) reorder many)

pub um_pairs_begin : UmPairsBegin
um_pairs_begin bits reorder_near reorder_far many near far h k = record {
  there_is = way_begins bits many reorder_near reorder_far near far [] [] h k refl
      (begins_beside bits many reorder_far far k);
  back_is = way_begins bits many reorder_far reorder_near far near [] [] k h refl
      (begins_beside bits many reorder_near near h);
}

begins_so : (bits : ℕ) (b : State) (keys : Keys) → b.bits ≡ bits
    → BeginsLife bits b.reorder (restarted (stopped b) keys)
begins_so bits b keys e =
    subst (λ (n : ℕ). BeginsLife n b.reorder (restarted (stopped b) keys)) e (begins_anew b keys)

way_lives_on : (bits many : ℕ) (from to : BearerEnd) (keys : Keys) (h : UmHistory) → from.bearer.bits ≡ bits
    → IsLived bits many from to h
    → IsLived bits many (begins (restarted (stopped from.bearer) keys))
    (begins (restarted (stopped to.bearer) keys)) (behind_life to.bearer h)
way_lives_on bits many from to keys h e s =
    let after' = behind_life to.bearer h in
    way_begins bits many from.bearer.reorder to.bearer.reorder (restarted (stopped from.bearer) keys)
    (restarted (stopped to.bearer) keys) after'.up after'.come (begins_so bits from.bearer keys e)
    (begins_so bits to.bearer keys s.to_bits) refl
    (um_bearers_live_on_beside (width_of bits) many h.up to.bearer keys h.come (ap width_of s.to_bits) s.receiver)

pub um_pairs_live_on : UmPairsLiveOn
um_pairs_live_on bits many p keys there back h = record {
  there_is = way_lives_on bits many p.near p.far keys there h.back_is.to_bits h.there_is;
  back_is = way_lives_on bits many p.far p.near keys back h.there_is.to_bits h.back_is;
}
