-- What goes up at a bearer of unacknowledged data is what is read of the SDUs that RLC hands up.
use Rattle.std.proofs.Common.{◌≡◌, ℕ, List, [], ◌∷◌, ◌++◌, append-nil, refl, ap, sym, ◌∙◌}
use Rattle.bearer_types.specs.Sides.{other}
use Rattle.bearer_types.specs.declared.config.BearerConfig.{BearerConfig}
use Rattle.eps_sec.specs.declared.Keys.{Keys}
use Rattle.l2_types.specs.declared.side.Side.{Side}
use Rattle.l2_types.specs.declared.side.Side.TheVariants.{Nb, Ue}
use Rattle.pdcp_pdu.specs.declared.pdu.PdcpKind.TheVariants.{Um as UmKind}
use Rattle.pdcp_rx.specs.declared.got.Cause.{Cause}
use Rattle.pdcp_rx.specs.declared.got.Cause.TheVariants.{Arrived, Reestablished}
use Rattle.pdcp_rx.specs.State.{State as Receiving, fresh as fresh_receiving, restarted as restarted_receiving}
use Rattle.rlc_um.specs.Receiver.{all_joined}
use Rattle.bearer_pdcp.specs.Ends.{begun}
use Rattle.bearer_pdcp.specs.Lives.{restarted as restarted_pdcp}
use Rattle.bearer.specs.declared.flow.Flow.{Flow}
use Rattle.bearer.specs.declared.flow.Flow.TheVariants.{Um}
use Rattle.bearer.specs.Hearing.{arriving, expiry}
use Rattle.bearer.specs.Lives.{stopping}
use Rattle.bearer.specs.Taking.{told}
use Rattle.bearer.specs.Unacknowledged.State.{State, fresh}
use Rattle.bearer.specs.Unacknowledged.Lives.{stopped, restarted}
use Rattle.journal_edge.specs.UmReading.{Reader, as_begun, renewed}
use Rattle.journal_edge.specs.RightEdge.{protection}
use Rattle.law_bearer.specs.AmBearer.Calls.{ups_among}
use Rattle.law_bearer.specs.AnyBearer.Calls.{Call, Submit, Take, Arrive, Expire, Tick, SetDiscard}
use Rattle.law_bearer.proofs.AnyBearer.Between.{IsBetween}
use Rattle.law_deliver.specs.AmFlow.Ups.{ups_on, tells_in, goes_up_in, go_up_over}
use Rattle.law_deliver.specs.UmFlow.Handing.{hands, handed, hears, raises, tells}
use Rattle.law_deliver.specs.UmFlow.Pair.{called}
use Rattle.law_deliver.proofs.AmChannel.Bearers.{all_own, expiry_told}
use Rattle.law_deliver.proofs.AmFlow.Events.{own_told, all_on, stopping_on, ups_over}
use Rattle.law_deliver.proofs.UmChannel.Bearers.{between_called, between_next}
use Rattle.law_deliver.proofs.UmFlow.Handing.{hears_what_is_handed, hears_the_rest_at_the_end}
use Rattle.law_deliver.proofs.UmFlow.Lives.{first_life_begins, next_life_begins}
use Rattle.law_deliver.proofs.UmFlow.Sending.{is_called}
use Rattle.law_um.specs.UmReading.{reader_of, IsReader, sdus_read, behind_all, UmReadersBegin}
use Rattle.law_um.specs.UmReading.{UmCallsAreRead, UmLivesAreRead, UmEndsAreRead}
use Rattle.law_um.proofs.UmReading.{receiving, reads_all, read_then, behind_then, only_next}

-- ---- a bearer begins

side_is : (c : BearerConfig) (keys : Keys) (side : Side)
    → reader_of c.pdcp_bits (fresh c keys side)
    ≡ record (as_begun c.pdcp_bits (protection (other side) c keys)) { next = c.first }
unfolding fresh begun fresh_receiving
side_is c keys Nb = refl
side_is c keys Ue = refl

begins_reading : (c : BearerConfig) (keys : Keys) (side : Side)
    → IsReader c.channel.lcid c.pdcp_bits (fresh c keys side)
unfolding fresh begun fresh_receiving
begins_reading c keys side = record {
  own = refl;
  of_data = (first_life_begins c keys side).of_data;
  kind = refl;
  none_held = refl;
  none_ready = refl;
}

pub um_readers_begin : UmReadersBegin
um_readers_begin c keys side = record { reads = begins_reading c keys side; reader_is = side_is c keys side }

-- ---- what it tells is of its own channel

tells_so : (l : ℕ) (b : State) (c : Call) → b.pdcp.lcid ≡ l → tells b c ≡ tells_in l (Um b) c
tells_so l b (Submit sdu) q = refl
tells_so l b (Take share held) q = ap (λ (n : ℕ). told n (Um b) share held) q
tells_so l b (Arrive pdu) q = ap (λ (n : ℕ). arriving n (Um b) pdu) q
tells_so l b (Expire clock) q = expiry_told (expiry (Um b) clock)
tells_so l b Tick q = refl
tells_so l b (SetDiscard ttis) q = refl

call_ups : (l : ℕ) (b : State) (c : Call) → IsBetween l (Um b) → ups_among (tells b c) ≡ goes_up_in l (Um b) c
call_ups l b c k =
    let told' = tells_in l (Um b) c in
    let own = own_told l l (Um b) (Um b) c refl refl k in
    ap ups_among (tells_so l b c k.own) ∙ all_own l told' own
    ∙ ups_over l (Um b) (c ∷ []) told' k (own ∙ sym (append-nil told')) ∙ append-nil (goes_up_in l (Um b) c)

end_ups : (l : ℕ) (b : State) → IsBetween l (Um b) → ups_among (stopping (Um b)) ≡ ups_on l (stopping (Um b))
end_ups l b k = all_own l (stopping (Um b)) (all_on l (stopping (Um b)) (stopping_on l (Um b) k))

-- ---- its receiver reads

between : (l bits : ℕ) (b : State) → IsReader l bits b → IsBetween l (Um b)
between l bits b h = record { own = h.own; empty = h.none_ready }

is_receiving : (l bits : ℕ) (b : State) → IsReader l bits b → b.pdcp.rx ≡ receiving (reader_of bits b)
is_receiving l bits b h =
    let r : Receiving = b.pdcp.rx in
    ap (λ k. record r { kind = k }) h.kind ∙ ap (λ held. record r { kind = UmKind bits; held = held }) h.none_held
    ∙ ap (λ ready. record r { kind = UmKind bits; held = []; ready = ready }) h.of_data.idle

-- what a receiver is that is one who reads
record IsAs (r : Reader) (left : Receiving) : Type 0 where
  kind : left.kind ≡ UmKind r.bits
  none_held : left.held ≡ []
  reader_is : record { bits = r.bits; protection = left.protection; next = left.next } ≡ r

is_as : (r : Reader) (left : Receiving) → left ≡ receiving r → IsAs r left
is_as r left e = record {
  kind = ap (λ (x : Receiving). x.kind) e;
  none_held = ap (λ (x : Receiving). x.held) e;
  reader_is = ap (λ (x : Receiving). record { bits = r.bits; protection = x.protection; next = x.next }) e;
}

-- behind SDUs
abbrev later : Reader → List (List ℕ) → Reader
later r sdus = record r { next = (behind_all sdus r).next }

is_later : (cause : Cause) (l bits : ℕ) (b : State) (sdus : List (List ℕ)) (left : Receiving)
    → IsReader l bits b → left ≡ hears cause sdus b.pdcp.rx → left ≡ receiving (later (reader_of bits b) sdus)
is_later cause l bits b sdus left h e =
    let r = reader_of bits b in
    e ∙ ap (hears cause sdus) (is_receiving l bits b h) ∙ (reads_all r cause sdus).left_is
    ∙ ap receiving (only_next r sdus)

raised_is : (cause : Cause) (l bits : ℕ) (b : State) (sdus : List (List ℕ)) → IsReader l bits b
    → raises cause sdus b.pdcp.rx ≡ sdus_read (reader_of bits b) sdus
raised_is cause l bits b sdus h =
    ap (raises cause sdus) (is_receiving l bits b h) ∙ (reads_all (reader_of bits b) cause sdus).ups

-- ---- in a call

pub um_calls_are_read : UmCallsAreRead
um_calls_are_read l bits b c h =
    let r = reader_of bits b in
    let sdus = hands b c in
    let hear = hears_what_is_handed bits b (c ∷ []) h.of_data in
    let one : handed b (c ∷ []) ≡ sdus = append-nil sdus in
    let k = between_called l b c (between l bits b h) in
    let left : Receiving = (called b c).pdcp.rx in
    let is = is_as (later r sdus) left
    (is_later Arrived l bits b sdus left h (hear.heard ∙ ap (λ xs. hears Arrived xs b.pdcp.rx) one)) in
    record {
      ups_are =
          sym (call_ups l b c (between l bits b h)) ∙ sym (ap ups_among (append-nil (tells b c))) ∙ hear.ups
          ∙ ap (λ xs. raises Arrived xs b.pdcp.rx) one ∙ raised_is Arrived l bits b sdus h;
      reader_is = is.reader_is ∙ sym (only_next r sdus);
      reads = record {
        own = k.own;
        of_data = hear.stays;
        kind = is.kind;
        none_held = is.none_held;
        none_ready = k.empty;
      };
    }

-- ---- in a life

pub um_lives_are_read : UmLivesAreRead
um_lives_are_read l bits b [] h = record { ups_are = refl; reader_is = refl; reads = h }
um_lives_are_read l bits b (c ∷ cs) h =
    let d : State = called b c in
    let r = reader_of bits b in
    let one = um_calls_are_read l bits b c h in
    let rest = um_lives_are_read l bits d cs one.reads in
    record {
      ups_are =
          ap (λ (f : Flow). goes_up_in l (Um b) c ++ go_up_over l f cs) (is_called b c)
          ∙ ap (λ (up : List (List ℕ)). up ++ go_up_over l (Um d) cs) one.ups_are
          ∙ ap (λ (up : List (List ℕ)). sdus_read r (hands b c) ++ up)
          (rest.ups_are ∙ ap (λ (x : Reader). sdus_read x (handed d cs)) one.reader_is)
          ∙ sym (read_then r (hands b c) (handed d cs));
      reader_is = rest.reader_is ∙ ap (behind_all (handed d cs)) one.reader_is
          ∙ sym (behind_then r (hands b c) (handed d cs));
      reads = rest.reads;
    }

-- ---- as it ends

renews : (r : Reader) (keys : Keys) → restarted_receiving (receiving r) keys ≡ receiving (renewed keys r)
unfolding restarted_receiving
renews r keys = refl

next_receiving : (b : State) (keys : Keys)
    → (restarted (stopped b) keys).pdcp.rx ≡ restarted_receiving (stopped b).pdcp.rx keys
unfolding restarted restarted_pdcp
next_receiving b keys = refl

pub um_ends_are_read : UmEndsAreRead
um_ends_are_read l bits b keys h =
    let r = reader_of bits b in
    let sdus = all_joined b.rx in
    let hear = hears_the_rest_at_the_end bits b h.of_data in
    let k = between_next l b keys (between l bits b h) in
    let next = renewed keys (later r sdus) in
    let last = is_later Reestablished l bits b sdus (stopped b).pdcp.rx h hear.heard in
    let is = is_as next (restarted (stopped b) keys).pdcp.rx
    (next_receiving b keys ∙ ap (λ (x : Receiving). restarted_receiving x keys) last ∙ renews (later r sdus) keys) in
    record {
      ups_are = sym (end_ups l b (between l bits b h)) ∙ hear.ups ∙ raised_is Reestablished l bits b sdus h;
      reader_is = is.reader_is ∙ ap (renewed keys) (sym (only_next r sdus));
      reads = record {
        own = k.own;
        of_data = (next_life_begins bits b [] keys h.of_data).of_data;
        kind = is.kind;
        none_held = is.none_held;
        none_ready = k.empty;
      };
    }
