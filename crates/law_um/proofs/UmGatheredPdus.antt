-- Calls of an unacknowledged bearer, the PDUs that it writes and those that come to it are gathered.
use Rattle.std.proofs.Common.{◌≡◌, ℕ, List, [], ◌∷◌, ◌++◌, map, length, Option, Some}
use Rattle.std.proofs.Common.{slice_get, append-nil, refl, ap, sym, subst, ◌∙◌}
use Rattle.std.specs.List.{AllByRecursion}
use Rattle.l2_types.specs.declared.event.How.TheVariants as hows
use Rattle.bearer_types.specs.Sides.{other}
use Rattle.pdu_show.specs.declared.kinds.Layout.{Layout}
use Rattle.rlc_am_rx_window.specs.Piece.{octets_in}
use Rattle.rlc_pdu.specs.Pdus.{IsUmBits}
use Rattle.rlc_pdu.specs.Writing.{umd_canonical}
use Rattle.rlc_pdu.proofs.Again.{umd_again}
use Rattle.rlc_um.specs.Sender.{Sender, Turn, Gives, turn, pieces, pdu_of, offered}
use Rattle.bearer.specs.Unacknowledged.Taking.{feeding, size_in}
use Rattle.bearer.specs.declared.flow.Flow.TheVariants.{Um}
use Rattle.promises.specs.Events.{told_on}
use Rattle.journal_account.specs.FlowEvents.{FlowEvent, SduTaken, NumberWritten, next_of, field_sizes}
use Rattle.journal_um.specs.UmEvents.{PduArrived}
use Rattle.journal_flows.specs.declared.parcels.Parcel.TheVariants.{Pieces}
use Rattle.journal_flows.specs.FlowsTold.{Histories, histories}
use Rattle.journal_flows.specs.Gathering.{all_told, parcel_in}
use Rattle.journal_flows.specs.NumberedPdus.{come_as}
use Rattle.journal_flows.specs.UmPdus.{place_next, sent_in, um_parcel_by}
use Rattle.law_bearer.specs.AnyBearer.Calls.{Take, Arrive}
use Rattle.law_bearer.specs.AnyBearer.Stream.{um_offered}
use Rattle.law_bearer.proofs.AnyBearer.Flows.{is_offered}
use Rattle.law_deliver.specs.AmFlow.Reordering.{Reordering, reordering_in}
use Rattle.law_deliver.specs.AmFlow.Ups.{tells_in}
use Rattle.law_deliver.specs.UmFlow.Handing.{tells}
use Rattle.law_deliver.specs.UmFlow.Pair.{HasOctet}
use Rattle.law_deliver.proofs.UmFlow.Numbers.{at_last}
use Rattle.law_deliver.proofs.UmFlow.Standing.{turn_given, in_range}
use Rattle.law_um.specs.UmLived.{UmHistory, with_sdus, written_by, takes_by}
use Rattle.law_um.specs.UmSending.{IsUmSenderOf}
use Rattle.law_um.specs.UmTimers.{event_of, with_events}
use Rattle.law_um.specs.UmWriting.{pieces_of}
use Rattle.law_um.specs.UmGathered.{IsShownSo, all_gathered, sizes_in, with_sizes, given_in}
use Rattle.law_um.specs.UmGathered.{UmCallsAreGathered, parcel_written, named_new, UmPdusAreGathered}
use Rattle.law_um.specs.UmGathered.{UmTakesAreGathered, UmArrivalsAreGathered}
use Rattle.law_um.proofs.UmSending.{um_offers_are_told}
use Rattle.law_um.proofs.UmGathered.{sender_tells, receiver_tells, flows_as, um_told_is_gathered}
use Rattle.law_um.proofs.UmGatheredBearers.{um_bearers_tell_own}

-- ---- a call

sdus_are : (sdus : List (List ℕ)) (es : List FlowEvent) → with_sizes (map length sdus) es ≡ with_sdus sdus es
sdus_are [] es = refl
sdus_are (sdu ∷ sdus) es = sdus_are sdus (SduTaken (length sdu) ∷ es)

pub um_calls_are_gathered : UmCallsAreGathered
um_calls_are_gathered kinds rlc bits more side l b c h known on =
    let t = um_bearers_tell_own l bits b c on in
    let told' = tells_in l (Um b) c in
    flows_as side l h (all_gathered kinds more side told' h) (with_sizes (sizes_in bits (told_on l told')))
    (with_sdus (given_in b c)) (with_events (map event_of (reordering_in (told_on l told'))))
    (with_events (map event_of (reordering_in (tells b c))))
    (λ es. ap (λ (ns : List ℕ). with_sizes ns es) (ap (sizes_in bits) t.own ∙ t.sizes) ∙ sdus_are (given_in b c) es)
    (λ es. ap (λ (rs : List Reordering). with_events (map event_of rs) es) (ap reordering_in t.own ∙ t.reordering))
    (um_told_is_gathered kinds rlc bits more side l told' h known)

-- ---- a PDU that is written

pub um_pdus_are_gathered : UmPdusAreGathered
um_pdus_are_gathered kinds bits side l s size held es h known u k gives before =
    let octets = umd_canonical s.bits (pdu_of s size) in
    let now = sent_in (h.unacked side l) in
    let read = (umd_again s.bits (pdu_of s size) u (in_range s size held u k.some (turn_given s size held gives))).read
    in
    let a = sender_tells side l (NumberWritten (octets_in (pieces s size))) h in
    record {
      parcel = ap (λ (x : Option Layout). parcel_in histories x h side (named_new l) octets) known
          ∙ (ap (um_parcel_by (next_of now) (place_next now) l hows.New) read
          ∙ ap (λ (fs : List FlowEvent). Some (parcel_written l s size fs)) before);
      behind = record {
        sent_is = a.sent_is;
        come_is = a.come_is;
        own_stays = a.own_stays;
        back_stays = a.back_stays;
      };
    }

-- ---- a take

offers_told : (sdus : List (List ℕ)) (s : Sender) (es : List FlowEvent) → AllByRecursion HasOctet sdus
    → IsUmSenderOf es s → IsUmSenderOf (with_sdus sdus es) (um_offered sdus s)
offers_told [] s es some h = h
offers_told (sdu ∷ sdus) s es some h =
    offers_told sdus (offered sdu s) (SduTaken (length sdu) ∷ es) some.1 (um_offers_are_told es s sdu some.0 h)

same_bits : (sdus : List (List ℕ)) (s : Sender) → (um_offered sdus s).bits ≡ s.bits
same_bits [] s = refl
same_bits (sdu ∷ sdus) s = same_bits sdus (offered sdu s)

same_next : (sdus : List (List ℕ)) (es : List FlowEvent) → next_of (with_sdus sdus es) ≡ next_of es
same_next [] es = refl
same_next (sdu ∷ sdus) es = same_next sdus (SduTaken (length sdu) ∷ es) ∙ ap length (append-nil (field_sizes es))

-- as its turn gives
written_so : (t : Turn) (s : Sender) (size : ℕ) (h : UmHistory) → t ≡ Gives
    → written_by t s size h ≡ written_by Gives s size h
written_so t s size h e = ap (λ (x : Turn). written_by x s size h) e

pub um_takes_are_gathered : UmTakesAreGathered
um_takes_are_gathered kinds bits side l b share held g h known u k numbers some gives before =
    let sdus = given_in b (Take share held) in
    let tx = (feeding b share held).tx in
    let es = with_sdus sdus g.sent in
    let size = size_in share in
    let fed : tx ≡ um_offered sdus b.tx = is_offered (Um b) share held in
    let same : tx.bits ≡ b.tx.bits = ap (λ (s : Sender). s.bits) fed ∙ same_bits sdus b.tx in
    let is : takes_by b share held g ≡ written_by Gives tx size (record g { sent = es }) =
    written_so (turn tx size held) tx size (record g { sent = es }) gives in
    let own = pieces_of (place_next es) (pdu_of tx size) in
    record {
      written = um_pdus_are_gathered kinds bits side l tx size held es h
          (subst (λ (n : ℕ). IsShownSo kinds l n bits) (sym same) known) (subst IsUmBits (sym same) u)
          (subst (IsUmSenderOf es) (sym fed) (offers_told sdus b.tx g.sent some k)) gives before;
      sent_is = ap (λ (x : UmHistory). x.sent) (sym is);
      at_number = ap (λ (x : UmHistory). slice_get x.written (next_of es)) is
          ∙ ap (λ (n : ℕ). slice_get (g.written ++ own ∷ []) n) (same_next sdus g.sent ∙ numbers)
          ∙ at_last g.written own;
    }

-- ---- a PDU that comes

pub um_arrivals_are_gathered : UmArrivalsAreGathered
um_arrivals_are_gathered kinds rlc bits more side l size b octets p h known on =
    let come = receiver_tells side l (PduArrived p.number p.pieces) h in
    let i : Histories = all_told histories (come_as (other side) (Pieces l p.number size p.pieces)) h in
    let call = um_calls_are_gathered kinds rlc bits more side l b (Arrive octets) i known on in
    record {
      sent_is = call.sent_is ∙ come.sent_is;
      come_is = call.come_is ∙ ap (with_events (map event_of (reordering_in (tells b (Arrive octets))))) come.come_is;
      own_stays = call.own_stays ∙ come.own_stays;
      back_stays = call.back_stays ∙ come.back_stays;
    }
