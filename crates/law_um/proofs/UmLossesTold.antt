-- What a run reckons of losses is what the history of the flow says.
use Rattle.std.proofs.Common.{◌≡◌, ◌<◌, ℕ, ◌+◌, ◌-◌, ◌*◌, ◌%◌, ◌==◌, Bool, true, false, ◌||◌, if◌then◌else◌}
use Rattle.std.proofs.Common.{List, [], ◌∷◌, ◌++◌, Option, Some, None, nat_lt, nat_le, max, refl, ap, sym}
use Rattle.std.proofs.Common.{append_assoc, subst, ◌∙◌, arith}
use Rattle.std.proofs.lemmas.Bool.Decides.{nat_tests}
use Rattle.rlc_pdu.specs.declared.outcome.Expired.{Expired}
use Rattle.rlc_pdu.specs.declared.outcome.Expired.TheVariants.{Done, NotRunning}
use Rattle.rlc_um.specs.Joined.{with_numbers}
use Rattle.rlc_um.specs.Sender.{width_of}
use Rattle.rlc_um.specs.Receiver.{State, arrival, turning, expired, expiring, all_joined}
use Rattle.um_losses.specs.declared.flow.Happening.TheVariants.{BlockArrived}
use Rattle.um_losses.specs.declared.gaps.Gaps.{Gaps}
use Rattle.um_losses.specs.declared.sending.InFlight.{InFlight}
use Rattle.um_losses.specs.Flow.{Flow, after, none_ready, all_gone, arrived_if}
use Rattle.um_losses.specs.Gaps.{numbered, counted, all_counted, no_gaps, restarted}
use Rattle.um_losses.specs.Pdus.{is_pdu}
use Rattle.um_losses.specs.Sending.{Sending, renewed, written}
use Rattle.um_losses.specs.Tags.{octets_of, last_tag, tagged}
use Rattle.um_losses.proofs.LastTag.{reads}
use Rattle.journal_um.specs.declared.pieces.Piece.{Piece}
use Rattle.journal_um.specs.UmEvents.{PduArrived, ReorderStarted, ReorderExpired, UmLifeEvent, InLife, LifeEnded}
use Rattle.journal_um.specs.UmEvents.{running}
use Rattle.journal_um.specs.UmWindow.{top_of, is_dropped, empty_window}
use Rattle.journal_um.specs.UmJoiner.{with_pdus}
use Rattle.journal_um.specs.UmFlow as flows
use Rattle.journal_um.specs.UmFlow.{UmFlow, living, read_in, ended, flow_of, is_long, empty_flow}
use Rattle.journal_um.specs.UmLosses.{far_came, leaves_out, was_long, highest_in, ComeInTime}
use Rattle.journal_um.specs.UmSdus.{joined_in}
use Rattle.journal_um.proofs.Accounts.{um_accounts_are_true}
use Rattle.journal_um.proofs.Either.{or-assoc, or-false, neither}
use Rattle.journal_um.proofs.Reading.{top_true}
use Rattle.law_um.specs.UmReceiving.{IsBeside, started, expired_as}
use Rattle.law_um.specs.UmLossesTold.{EndsWithTag, AreCounted, Reckons, AreLosses, LossesBegin}
use Rattle.law_um.specs.UmLossesTold.{SendingLosesNone, started_in, IsArriving, arrives_in, ArrivalsAreReckoned}
use Rattle.law_um.specs.UmLossesTold.{expires_in, ExpiriesAreReckoned, LivesAreReckoned}
use Rattle.law_um.proofs.UmJoining.{IsKind}
use Rattle.law_um.proofs.UmReceiving.{outset_accounted, arrival_accounted, expired_accounted, ends_alike}

-- ---- tags

counted-push : (sdus : List (List ℕ)) (x : List ℕ) (g : Gaps)
    → all_counted (sdus ++ x ∷ []) g ≡ counted (last_tag x) (all_counted sdus g)
counted-push [] x g = refl
counted-push (y ∷ ys) x g = counted-push ys x (counted (last_tag y) g)

-- counting changes nothing but the place and whether losses were long
record Stays (g h : Gaps) : Type 0 where
  width : h.width ≡ g.width
  counts : h.counts ≡ g.counts
  top : h.top ≡ g.top

one-stays : (none : Bool) (tag : ℕ) (g : Gaps) → Stays g (if none then g else record g {
  next = tag;
  long = g.long || nat_lt (g.next + g.counts) tag;
})
one-stays true tag g = record { width = refl; counts = refl; top = refl }
one-stays false tag g = record { width = refl; counts = refl; top = refl }

stays : (sdus : List (List ℕ)) (g : Gaps) → Stays g (all_counted sdus g)
stays [] g = record { width = refl; counts = refl; top = refl }
stays (x ∷ xs) g =
    let one = one-stays (last_tag x == 0) (last_tag x) g in
    let all = stays xs (counted (last_tag x) g) in
    record { width = all.width ∙ one.width; counts = all.counts ∙ one.counts; top = all.top ∙ one.top }

-- an SDU of a place is counted
counted-place : (place tag : ℕ) (g : Gaps) → tag ≡ place + 1 → counted tag g ≡ record g {
  next = place + 1;
  long = g.long || nat_le (g.next + g.counts) place;
}
counted-place place tag g e =
    let some : (place + 1 == 0) ≡ false = grind (arith, nat_tests) in
    let same : nat_lt (g.next + g.counts) (place + 1) ≡ nat_le (g.next + g.counts) place = grind (arith, nat_tests) in
    ap (λ (n : ℕ). counted n g) e
    ∙ ap (λ (b : Bool). if b then g else record g {
      next = place + 1;
      long = g.long || nat_lt (g.next + g.counts) (place + 1);
    }) some
    ∙ ap (λ (b : Bool). record g { next = place + 1; long = g.long || b }) same

tag-kind : (far : Bool) (g : Gaps) → IsKind EndsWithTag (Reckons far g)
tag-kind far g = record {
  goes = λ kept octets more others before place a b. (
    b.0,
    (kept ++ b.1.0, ap (λ (l : List ℕ). kept ++ l) b.1.1 ∙ sym (append_assoc kept b.1.0 (octets_of (place + 1)))),
  );
  more = λ ready kept octets place u k h.
      let tag : last_tag kept ≡ place + 1 = ap last_tag k.1.1 ∙ reads k.1.0 (place + 1) k.0 in
      let now = counted-push ready kept g ∙ counted-place place (last_tag kept) (all_counted ready g) tag in
      record {
        counts = h.counts;
        next_is = ap (λ (x : Gaps). x.next) now;
        long_is = ap (λ (x : Gaps). x.long) now
            ∙ ap (λ (b : Bool). b || nat_le ((all_counted ready g).next + (all_counted ready g).counts) place) h.long_is
            ∙ ap (λ (n : ℕ). (far || u.long) || nat_le (n + (all_counted ready g).counts) place) h.next_is
            ∙ ap (λ (n : ℕ). (far || u.long) || nat_le (u.next + n) place) ((stays ready g).counts ∙ h.counts)
            ∙ or-assoc far u.long (nat_le (u.next + u.many) place);
      };
  free = λ ready part u h. record { counts = h.counts; next_is = h.next_is; long_is = h.long_is };
}

-- ---- what went up is counted

gone-beside : (far : Bool) (g : Gaps) (s : State) (f : UmFlow) → IsBeside EndsWithTag (Reckons far g) s f
    → IsBeside EndsWithTag (Reckons far (all_counted s.joined.ready g)) (none_ready s) f
gone-beside far g s f h = record {
  window = h.window;
  part = h.part;
  ready = record {
    counts = (stays s.joined.ready g).counts ∙ h.ready.counts;
    next_is = h.ready.next_is;
    long_is = h.ready.long_is;
  };
  mark = h.mark;
}

-- so a receiver that is beside an account is reckoned by it as it hands up what is ready
reckoned : (width many : ℕ) (f : Flow) (g : Gaps) (s : State) (es : List UmLifeEvent) → 0 < width
    → width_of f.bits ≡ width → g.width ≡ width → g.top ≡ highest_in (running es)
    → IsBeside EndsWithTag (Reckons (flow_of width many es).far g) s (flow_of width many es)
    → AreLosses width many (all_gone (record f { receiver = s; gaps = g })) es
reckoned width many f g s es some bits wide top h =
    let a = um_accounts_are_true width many es some in
    record {
      bits = bits;
      width_is = (stays s.joined.ready g).width ∙ wide;
      top = (stays s.joined.ready g).top ∙ top;
      gone = refl;
      receiver = gone-beside (flow_of width many es).far g s (flow_of width many es) h;
      long = h.ready.long_is ∙ a.long;
    }

-- ---- the account

flow-started : (width many : ℕ) (b : Bool) (es : List UmLifeEvent)
    → flow_of width many (started_in b es) ≡ started b (flow_of width many es)
flow-started width many true es = refl
flow-started width many false es = refl

-- the first reading is no matter of how far a number lies
started-far : (b : Bool) (f : UmFlow) → (started b f).far ≡ f.far
started-far true f = refl
started-far false f = refl

landed-far : (o : Option ℕ) (pieces : List Piece) (f : UmFlow) → (flows.landed o pieces f).far ≡ f.far
landed-far None pieces f = refl
landed-far (Some n) pieces f = by (is_dropped n f.window)
  where
    by : (b : Bool) → (if b then f else flows.kept (n - f.window.edge) pieces f).far ≡ f.far
    by true = refl
    by false = refl

landed-wide : (o : Option ℕ) (pieces : List Piece) (f : UmFlow)
    → (flows.landed o pieces f).window.width ≡ f.window.width
landed-wide None pieces f = refl
landed-wide (Some n) pieces f = by (is_dropped n f.window)
  where
    by : (b : Bool) → (if b then f else flows.kept (n - f.window.edge) pieces f).window.width ≡ f.window.width
    by true = refl
    by false = refl

pub flow_wide : (width many : ℕ) (es : List UmLifeEvent) → (flow_of width many es).window.width ≡ width
flow_wide width many [] = refl
flow_wide width many (InLife (PduArrived number pieces) ∷ es) =
    let f = flow_of width many es in
    landed-wide (read_in number f) pieces (flows.numbered number f) ∙ flow_wide width many es
flow_wide width many (InLife ReorderStarted ∷ es) = flow_wide width many es
flow_wide width many (InLife ReorderExpired ∷ es) = flow_wide width many es
flow_wide width many (LifeEnded ∷ es) = flow_wide width many es

started-highest : (b : Bool) (es : List UmLifeEvent)
    → highest_in (running (started_in b es)) ≡ highest_in (running es)
started-highest true es = omega arith
started-highest false es = refl

-- ---- a number is far by both, where none was before

or-true : (b : Bool) → (b || true) ≡ true
or-true true = refl
or-true false = refl

far-alike : (far long one other : Bool) → ((far || long) ≡ false → one ≡ other)
    → ((far || long) || one) ≡ ((far || other) || long)
far-alike true long one other same = refl
far-alike false true one other same = sym (or-true other)
far-alike false false one other same = same refl ∙ sym (or-false other)

tops-alike : (width many : ℕ) (es : List UmLifeEvent) → 0 < width → ComeInTime width (running es)
    → is_long (flow_of width many es) ≡ false → top_of (flow_of width many es).window ≡ highest_in (running es)
tops-alike width many es some time short =
    let a = um_accounts_are_true width many es some in
    let parts = neither (was_long width many es) (far_came width (running es)
    || leaves_out many 0 (joined_in width (running es))) (sym a.long ∙ short) in
    let more = neither (far_came width (running es)) (leaves_out many 0 (joined_in width (running es)))
    parts.second in
    a.top ∙ top_true width (running es) some time more.first

numbers-alike : (width many number : ℕ) (g : Gaps) (es : List UmLifeEvent) → 0 < width
    → ComeInTime width (running es) → g.width ≡ width → g.top ≡ highest_in (running es)
    → g.long ≡ ((flow_of width many es).far || (flow_of width many es).joiner.long)
    → (numbered number g).long
    ≡ ((flows.numbered number (flow_of width many es)).far || (flow_of width many es).joiner.long)
numbers-alike width many number g es some time wide top long =
    let f = flow_of width many es in
    ap (λ (b : Bool). b || nat_le (g.top + g.width) number) long
    ∙ far-alike f.far f.joiner.long (nat_le (g.top + g.width) number)
    (nat_le (top_of f.window + f.window.width) number)
    (λ short. ap (λ (n : ℕ). nat_le (n + g.width) number) (top ∙ sym (tops-alike width many es some time short))
    ∙ ap (λ (n : ℕ). nat_le (top_of f.window + n) number) (wide ∙ sym (flow_wide width many es)))

-- ---- a block arrives

-- before it, with the number
ready-counted : (far now : Bool) (g next : Gaps) (s : State) (f : UmFlow)
    → IsBeside EndsWithTag (Reckons far g) s f → s.joined.ready ≡ [] → next.counts ≡ g.counts
    → next.next ≡ g.next → next.long ≡ (now || f.joiner.long) → IsBeside EndsWithTag (Reckons now next) s f
ready-counted far now g next s f h gone counts place long = record {
  window = h.window;
  part = h.part;
  ready = subst (λ (l : List (List ℕ)). AreCounted now next f.joiner.many f.joiner.next f.joiner.long l) (sym gone)
      (record {
        counts = counts ∙ h.ready.counts;
        next_is = place ∙ sym (ap (λ (l : List (List ℕ)). (all_counted l g).next) gone) ∙ h.ready.next_is;
        long_is = long;
      });
  mark = h.mark;
}

arrived-losses : (width many : ℕ) (f : Flow) (es : List UmLifeEvent) (s : InFlight) (pieces : List Piece)
    → 0 < width → IsArriving f s pieces → ComeInTime width (running es) → AreLosses width many f es
    → AreLosses width many
    (all_gone (record f {
      receiver = arrival (tagged (Some s.first) s.pdu) f.receiver;
      gaps = numbered s.number f.gaps;
    }))
    (arrives_in f s pieces es)
arrived-losses width many f es s pieces some is time h =
    let now = flow_of width many es in
    let far = (flows.numbered s.number now).far in
    let g = numbered s.number f.gaps in
    let pdu = tagged (Some s.first) s.pdu in
    let starts = (turning pdu f.receiver).started in
    let come : List UmLifeEvent = InLife (PduArrived s.number pieces) ∷ es in
    let long : f.gaps.long ≡ (now.far || now.joiner.long) =
    sym (ap (λ (l : List (List ℕ)). (all_counted l f.gaps).long) h.gone) ∙ h.receiver.ready.long_is in
    let before = ready-counted now.far far f.gaps g f.receiver now h.receiver h.gone refl refl
    (numbers-alike width many s.number f.gaps es some time h.width_is h.top long) in
    let wide : width_of f.bits ≡ now.window.width = h.bits ∙ sym (flow_wide width many es) in
    let behind = arrival_accounted EndsWithTag (Reckons far g) (tag-kind far g) f.receiver now pdu s.number pieces
    (is.sn ∙ ap (λ (n : ℕ). s.number % (2 * n)) wide) is.carries before in
    let same : flow_of width many (arrives_in f s pieces es)
    ≡ started starts (living (PduArrived s.number pieces) now) =
    flow-started width many starts come in
    let far_is : (flow_of width many (arrives_in f s pieces es)).far ≡ far =
    ap (λ (x : UmFlow). x.far) same ∙ started-far starts (living (PduArrived s.number pieces) now)
    ∙ landed-far (read_in s.number now) pieces (flows.numbered s.number now) in
    reckoned width many f g (arrival pdu f.receiver) (arrives_in f s pieces es) some h.bits h.width_is
    (ap (λ (n : ℕ). max n (s.number + 1)) h.top ∙ sym (started-highest starts come))
    (subst (λ (x : UmFlow). IsBeside EndsWithTag (Reckons (flow_of width many (arrives_in f s pieces es)).far g)
    (arrival pdu f.receiver) x) (sym same)
    (subst (λ (b : Bool). IsBeside EndsWithTag (Reckons b g) (arrival pdu f.receiver)
    (started starts (living (PduArrived s.number pieces) now))) (sym far_is) behind))

pub arrivals_are_reckoned : ArrivalsAreReckoned
arrivals_are_reckoned width many process f es s pieces some at is time late h =
    let heard_so : after (BlockArrived process) f ≡ all_gone (record f {
      receiver = arrival (tagged (Some s.first) s.pdu) f.receiver;
      gaps = numbered s.number f.gaps;
    }) = ap (λ (o : Option InFlight). arrived_if o f) at
    ∙ ap (λ (b : Bool). if b then all_gone (record f {
      receiver = arrival (tagged (Some s.first) s.pdu) f.receiver;
      gaps = numbered s.number f.gaps;
    }) else record f { gaps = numbered s.number f.gaps }) is.pdu in
    subst (λ (x : Flow). AreLosses width many x (arrives_in f s pieces es)) (sym heard_so)
    (arrived-losses width many f es s pieces some is time h)

-- ---- the rest

flow-expired : (width many : ℕ) (x : Expired) (es : List UmLifeEvent)
    → flow_of width many (expires_in x es) ≡ expired_as x (flow_of width many es)
flow-expired width many NotRunning es = refl
flow-expired width many (Done again) es = flow-started width many again (InLife ReorderExpired ∷ es)

expired-far : (x : Expired) (f : UmFlow) → (expired_as x f).far ≡ f.far
expired-far NotRunning f = refl
expired-far (Done again) f = started-far again (living ReorderExpired f)

expired-highest : (x : Expired) (es : List UmLifeEvent)
    → highest_in (running (expires_in x es)) ≡ highest_in (running es)
expired-highest NotRunning es = refl
expired-highest (Done again) es = started-highest again (InLife ReorderExpired ∷ es) ∙ omega arith

pub expiries_are_reckoned : ExpiriesAreReckoned
expiries_are_reckoned width many f es some h =
    let now = flow_of width many es in
    let x = expiring f.receiver in
    let behind = expired_accounted EndsWithTag (Reckons now.far f.gaps) (tag-kind now.far f.gaps) f.receiver now
    h.receiver in
    let same = flow-expired width many x es in
    let far_is : (flow_of width many (expires_in x es)).far ≡ now.far =
    ap (λ (y : UmFlow). y.far) same ∙ expired-far x now in
    reckoned width many f f.gaps (expired f.receiver) (expires_in x es) some h.bits h.width_is
    (h.top ∙ sym (expired-highest x es))
    (subst (λ (y : UmFlow). IsBeside EndsWithTag (Reckons (flow_of width many (expires_in x es)).far f.gaps)
    (expired f.receiver) y) (sym same)
    (subst (λ (b : Bool). IsBeside EndsWithTag (Reckons b f.gaps) (expired f.receiver) (expired_as x now))
    (sym far_is) behind))

joined-all : (s : State) → all_joined s ≡ (with_numbers s.window.slots s.joined).ready
unfolding all_joined
joined-all s = refl

pub lives_are_reckoned : LivesAreReckoned
lives_are_reckoned width many f es some h =
    let now = flow_of width many es in
    let g = all_counted (all_joined f.receiver) f.gaps in
    let joined =
    ends_alike EndsWithTag (Reckons now.far f.gaps) (tag-kind now.far f.gaps) f.receiver now h.receiver in
    let all = joined.ready in
    let a = um_accounts_are_true width many (LifeEnded ∷ es) some in
    let long : g.long ≡ (now.far || (with_pdus now.window.pdus now.joiner).long) =
    ap (λ (l : List (List ℕ)). (all_counted l f.gaps).long) (joined-all f.receiver) ∙ all.long_is in
    record {
      bits = h.bits;
      width_is = (stays (all_joined f.receiver) f.gaps).width ∙ h.width_is;
      top = refl;
      gone = refl;
      receiver = outset_accounted EndsWithTag (Reckons now.far (restarted g)) (tag-kind now.far (restarted g))
          (width_of f.bits) 0 (ended now)
          (ap empty_window (flow_wide width many es ∙ sym h.bits)) refl
          (record {
            counts = (stays (all_joined f.receiver) f.gaps).counts ∙ all.counts;
            next_is = refl;
            long_is = long;
          });
      long = long ∙ a.long;
    }

-- what is sent is no matter of it
sent-losses : (width many : ℕ) (f : Flow) (es : List UmLifeEvent) (s : Sending) → AreLosses width many f es
    → AreLosses width many (record f { sending = s }) es
sent-losses width many f es s h = record {
  bits = h.bits;
  width_is = h.width_is;
  top = h.top;
  gone = h.gone;
  receiver = h.receiver;
  long = h.long;
}

pub sending_loses_none : SendingLosesNone
sending_loses_none width many f es h = record {
  renewed = λ process. sent-losses width many f es (renewed process f.sending) h;
  written = λ process p. by (is_pdu f.bits p) (written process p f.sending);
}
  where
    by : (b : Bool) (s : Sending) → AreLosses width many (if b then record f { sending = s } else f) es
    by true s = sent-losses width many f es s h
    by false s = h

some-width : (b : Bool) → 0 < (if b then 16 else 512)
some-width true = omega arith
some-width false = omega arith

pub losses_begin : LossesBegin
losses_begin direction lcid bits many =
    let a = um_accounts_are_true (width_of bits) many [] (some-width (bits == 5)) in
    record {
      bits = refl;
      width_is = refl;
      top = refl;
      gone = refl;
      receiver = outset_accounted EndsWithTag (Reckons false (no_gaps (width_of bits) many))
          (tag-kind false (no_gaps (width_of bits) many)) (width_of bits) 0 (empty_flow (width_of bits) many) refl refl
          (record { counts = refl; next_is = refl; long_is = refl });
      long = a.long;
    }
