-- The measure of a channel falls in a round in which one of its bearers writes, or a quiet one is recalled.
use Rattle.std.proofs.Common.{◌≡◌, ◌≤◌, ◌<◌, inl, inr, ℕ, ◌+◌, Bool, true, false, List, [], ◌∷◌, ◌++◌, map}
use Rattle.std.proofs.Common.{length, append_assoc, Option, Some, None, refl, ap, sym, subst, ◌∙◌, arith}
use Rattle.std.specs.List.{AllByRecursion}
use Rattle.l2_num.specs.Timers.{runs}
use Rattle.l2_types.specs.declared.Clock.TheVariants.{Reorder, Prohibit, Poll}
use Rattle.bearer.specs.Acknowledged.State.{State}
use Rattle.bearer.specs.Acknowledged.Taking.{writes_status, data_size}
use Rattle.bearer.specs.Hearing.{arrived, expired, ticked, with_discard}
use Rattle.bearer.specs.Submitting.{submitted}
use Rattle.bearer.specs.Taking.{after as taken_from, pdus}
use Rattle.bearer.specs.declared.flow.Flow.{Flow}
use Rattle.bearer.specs.declared.flow.Flow.TheVariants.{Tm, Um, Am}
use Rattle.bearer_pdcp.specs.Telling.{pdus_of}
use Rattle.pdcp_tx.specs.State.{taking}
use Rattle.pdcp_tx.specs.declared.sender.Next.{Next}
use Rattle.rlc_am_tx.specs.declared.turn.Turn.{Turn}
use Rattle.rlc_am_tx.specs.declared.turn.Turn.TheVariants as turns
use Rattle.rlc_am_tx.specs.Machine.{State as Sender, turn, after_turn, with_poll, is_wanted, sent_whole, sent_segment}
use Rattle.rlc_am_tx.specs.Machine.{sent_new}
use Rattle.rlc_pdu.specs.declared.outcome.Taken.{Taken}
use Rattle.rlc_pdu.specs.declared.outcome.Taken.TheVariants as answers
use Rattle.law_rlc.specs.AmSender.Run.{Offer, Take as Taking, Status, Tick as TickSender}
use Rattle.law_rlc.specs.AmSender.Run.{Expire as ExpireSender, Settle, Confirm as HandOver}
use Rattle.law_rlc.specs.AmReceiver.Run.{Write}
use Rattle.law_bearer.specs.AnyBearer.Acknowledged.{offers_in, has_more_behind}
use Rattle.law_bearer.specs.AnyBearer.Calls.{Call, Submit, Take, Arrive, Expire, Tick, SetDiscard, after, after_all}
use Rattle.law_bearer.specs.AnyBearer.Rounds.{Share, Round, IsRound, takes_in, writes_in, arrivals, expiries, nb_calls}
use Rattle.law_bearer.specs.AnyBearer.Rounds.{ue_calls}
use Rattle.law_bearer.proofs.AnyBearer.SenderCalls.{all_then}
use Rattle.law_bearer.specs.AmBearer.Calls.{deeds_of, only_if}
use Rattle.law_bearer.specs.AmBearer.Deeds.{Deed, Feeds, Sends, Confirms, Receives, HandsUp, Asks, Sets, does, does_all}
use Rattle.law_bearer.specs.AmBearer.Deeds.{offered_next}
use Rattle.law_drain.specs.Bearer.{IsOfDrain}
use Rattle.law_drain.specs.Channels.{Measured, channel_measure}
use Rattle.law_drain.specs.Ends.{Stands, OffersOctets, CostsBoth, measure_from}
use Rattle.law_drain.specs.Falling.{is_acknowledged, AreAlike, WritesOctets, ReordersAtTop, AwaitsPoll, down_writes}
use Rattle.law_drain.specs.Falling.{up_writes, RoundFalls, ChannelsFall}
use Rattle.law_drain.specs.Others.{waits_in}
use Rattle.law_drain.specs.Queues.{pieces_in}
use Rattle.law_drain.specs.Round.{behind}
use Rattle.law_drain.specs.Sharing.{is_transparent}
use Rattle.law_drain.proofs.Channels.{all-fall}
use Rattle.law_drain.proofs.Ends.{rounds_cost_both, stands-on, arrivals-other, nb-round, ue-round}
use Rattle.law_drain.proofs.Octets.{others-give}
use Rattle.law_drain.proofs.Others.{others_fall}
use Rattle.law_drain.proofs.Paying.{writers_pay}
use Rattle.law_drain.proofs.Rounds.{behind-then}

-- ---- a bearer keeps its mode

call-alike : (f : Flow) (c : Call) → AreAlike (after f c) f
unfolding submitted taken_from arrived expired ticked with_discard
call-alike (Tm b) (Submit sdu) = record { transparent = refl; acknowledged = refl }
call-alike (Tm b) (Take share held) = record { transparent = refl; acknowledged = refl }
call-alike (Tm b) (Arrive pdu) = record { transparent = refl; acknowledged = refl }
call-alike (Tm b) (Expire clock) = record { transparent = refl; acknowledged = refl }
call-alike (Tm b) Tick = record { transparent = refl; acknowledged = refl }
call-alike (Tm b) (SetDiscard ttis) = record { transparent = refl; acknowledged = refl }
call-alike (Um b) (Submit sdu) = record { transparent = refl; acknowledged = refl }
call-alike (Um b) (Take share held) = record { transparent = refl; acknowledged = refl }
call-alike (Um b) (Arrive pdu) = record { transparent = refl; acknowledged = refl }
call-alike (Um b) (Expire clock) = record { transparent = refl; acknowledged = refl }
call-alike (Um b) Tick = record { transparent = refl; acknowledged = refl }
call-alike (Um b) (SetDiscard ttis) = record { transparent = refl; acknowledged = refl }
call-alike (Am b) (Submit sdu) = record { transparent = refl; acknowledged = refl }
call-alike (Am b) (Take share held) = record { transparent = refl; acknowledged = refl }
call-alike (Am b) (Arrive pdu) = record { transparent = refl; acknowledged = refl }
call-alike (Am b) (Expire clock) = record { transparent = refl; acknowledged = refl }
call-alike (Am b) Tick = record { transparent = refl; acknowledged = refl }
call-alike (Am b) (SetDiscard ttis) = record { transparent = refl; acknowledged = refl }

calls-alike : (cs : List Call) (f : Flow) → AreAlike (after_all f cs) f
calls-alike [] f = record { transparent = refl; acknowledged = refl }
calls-alike (c ∷ cs) f =
    let one = call-alike f c in
    let rest = calls-alike cs (after f c) in
    record {
      transparent = rest.transparent ∙ one.transparent;
      acknowledged = rest.acknowledged ∙ one.acknowledged;
    }

round-alike : (r : Round) (nb ue nb' ue' : Flow) → IsRound r nb ue nb' ue' → AreAlike nb ue → AreAlike nb' ue'
round-alike r nb ue nb' ue' is h =
    let x = calls-alike (nb_calls r nb ue) nb in
    let y = calls-alike (ue_calls r nb ue) ue in
    record {
      transparent =
          ap is_transparent is.nb_is ∙ x.transparent ∙ h.transparent ∙ sym y.transparent
          ∙ sym (ap is_transparent is.ue_is);
      acknowledged =
          ap is_acknowledged is.nb_is ∙ x.acknowledged ∙ h.acknowledged ∙ sym y.acknowledged
          ∙ sym (ap is_acknowledged is.ue_is);
    }

none-reorders : (f : Flow) → is_acknowledged f ≡ false → ReordersAtTop f
none-reorders (Tm b) e = tt
none-reorders (Um b) e = tt
none-reorders (Am b) e = let no' : true ≡ false = e in cc

none-awaits : (f : Flow) → is_acknowledged f ≡ false → AwaitsPoll f → ⊥
none-awaits (Tm b) e w = w
none-awaits (Um b) e w = w
none-awaits (Am b) e w = let no' : true ≡ false = e in cc

-- ---- what waits at a bearer that nothing acknowledges

some-piece : (t : Taken) → 0 < length (pdus_of t) → 1 ≤ pieces_in t
some-piece (answers.Piece number fresh polled octets) h = omega arith
some-piece answers.Idle h = absurd (omega (arith, h))
some-piece answers.Small h = absurd (omega (arith, h))
some-piece answers.Shut h = absurd (omega (arith, h))
some-piece answers.Held h = absurd (omega (arith, h))
some-piece answers.Stopped h = absurd (omega (arith, h))

take-falls : (share : ℕ) (held : Option ℕ) (f : Flow) → is_acknowledged f ≡ false → WritesOctets f
    → 0 < length (pdus f share held) → waits_in (after f (Take share held)) + 1 ≤ waits_in f
unfolding pdus
take-falls share held (Tm b) e h some =
    omega (arith, others_fall (Tm b) share held (h share held), some-piece _ some)
take-falls share held (Um b) e h some =
    omega (arith, others_fall (Um b) share held (h share held), some-piece _ some)
take-falls share held (Am b) e h some = let no' : true ≡ false = e in cc

share-falls : (here : Bool) (share : ℕ) (held : Option ℕ) (f : Flow) → is_acknowledged f ≡ false → WritesOctets f
    → 0 < length (writes_in (record { here = here; octets = share; held = held }) f)
    → waits_in (after_all f (takes_in (record { here = here; octets = share; held = held }))) + 1 ≤ waits_in f
share-falls true share held f e h some = take-falls share held f e h some
share-falls false share held f e h some = absurd (omega (arith, some))

after-more : (xs ys : List Call) (f : Flow) → after_all f (xs ++ ys) ≡ after_all (after_all f xs) ys
after-more [] ys f = refl
after-more (x ∷ xs) ys f = after-more xs ys (after f x)

first-of : (xs ys : List Call) → AllByRecursion IsOfDrain (xs ++ ys) → AllByRecursion IsOfDrain xs
first-of [] ys h = tt
first-of (x ∷ xs) ys h = (h.0, first-of xs ys h.1)

last-of : (xs ys : List Call) → AllByRecursion IsOfDrain (xs ++ ys) → AllByRecursion IsOfDrain ys
last-of [] ys h = h
last-of (x ∷ xs) ys h = last-of xs ys h.1

-- calls before and behind a share that is written
around-falls : (xs : List Call) (s : Share) (ys : List Call) (f : Flow) → is_acknowledged f ≡ false
    → AllByRecursion IsOfDrain (xs ++ (takes_in s ++ ys)) → WritesOctets (after_all f xs)
    → 0 < length (writes_in s (after_all f xs)) → waits_in (after_all f (xs ++ (takes_in s ++ ys))) + 1 ≤ waits_in f
around-falls xs s ys f e drains octets some =
    let mid = after_all f xs in
    let mode = (calls-alike xs f).acknowledged ∙ e in
    let one = share-falls s.here s.octets s.held mid mode octets some in
    let rest = last-of xs (takes_in s ++ ys) drains in
    let last' = all-fall ys (after_all mid (takes_in s)) (last-of (takes_in s) ys rest) in
    let first' = all-fall xs f (first-of xs (takes_in s ++ ys) drains) in
    let is : after_all f (xs ++ (takes_in s ++ ys)) ≡ after_all (after_all mid (takes_in s)) ys =
    after-more xs (takes_in s ++ ys) f ∙ after-more (takes_in s) ys mid in
    subst (λ (g : Flow). waits_in g + 1 ≤ waits_in f) (sym is) (omega (arith, one, last', first'))

-- ---- and at both ends

others-measure : (nb ue : Flow) (h : Measured nb ue) → is_acknowledged nb ≡ false
    → channel_measure nb ue h ≡ waits_in nb + waits_in ue
others-measure (Tm b) ue h e = refl
others-measure (Um b) ue h e = refl
others-measure (Am b) ue h e = let no' : true ≡ false = e in cc

others-measured : (nb ue : Flow) → is_acknowledged nb ≡ false → Measured nb ue
others-measured (Tm b) ue e = tt
others-measured (Um b) ue e = tt
others-measured (Am b) ue e = let no' : true ≡ false = e in cc

others : (r : Round) (nb ue nb' ue' : Flow) → IsRound r nb ue nb' ue' → AreAlike nb ue → WritesOctets nb
    → WritesOctets (after_all ue (arrivals (down_writes r nb))) → (h : Measured nb ue) → is_acknowledged nb ≡ false
    → RoundFalls r nb ue nb' ue' h
others r nb ue nb' ue' is same nb-octets ue-octets h mode = record {
  left = left';
  alike = alike';
  nb_top = none-reorders nb' nb-mode;
  ue_top = none-reorders ue' ue-mode;
  rests = omega (arith, before, behind', nb-rests, ue-rests);
  writes = λ a b w. elim w [
    | inl down ↦ omega (arith, before, behind', nb-writes down, ue-rests)
    | inr up ↦ omega (arith, before, behind', nb-rests, ue-writes up)
  ];
  recalls = λ p d u w. elim w [
    | inl near ↦ absurd (none-awaits nb mode near)
    | inr far ↦ absurd (none-awaits ue (sym same.acknowledged ∙ mode) far)
  ];
}
  where
    alike' : AreAlike nb' ue'
    alike' = round-alike r nb ue nb' ue' is same

    nb-mode : is_acknowledged nb' ≡ false
    nb-mode = ap is_acknowledged is.nb_is ∙ (calls-alike (nb_calls r nb ue) nb).acknowledged ∙ mode

    ue-mode : is_acknowledged ue' ≡ false
    ue-mode = sym alike'.acknowledged ∙ nb-mode

    left' : Measured nb' ue'
    left' = others-measured nb' ue' nb-mode

    before : channel_measure nb ue h ≡ waits_in nb + waits_in ue
    before = others-measure nb ue h mode

    behind' : channel_measure nb' ue' left' ≡ waits_in nb' + waits_in ue'
    behind' = others-measure nb' ue' left' nb-mode

    nb-rests : waits_in nb' ≤ waits_in nb
    nb-rests = subst (λ (f : Flow). waits_in f ≤ waits_in nb) (sym is.nb_is)
        (all-fall (nb_calls r nb ue) nb (nb-round r nb ue))

    ue-rests : waits_in ue' ≤ waits_in ue
    ue-rests = subst (λ (f : Flow). waits_in f ≤ waits_in ue) (sym is.ue_is)
        (all-fall (ue_calls r nb ue) ue (ue-round r nb ue))

    nb-writes : 0 < length (down_writes r nb) → waits_in nb' + 1 ≤ waits_in nb
    nb-writes some =
        subst (λ (f : Flow). waits_in f + 1 ≤ waits_in nb) (sym is.nb_is)
        (around-falls [] r.down (arrivals (up_writes r nb ue) ++ expiries r.polls) nb mode (nb-round r nb ue)
        nb-octets some)

    ue-writes : 0 < length (up_writes r nb ue) → waits_in ue' + 1 ≤ waits_in ue
    ue-writes some =
        subst (λ (f : Flow). waits_in f + 1 ≤ waits_in ue) (sym is.ue_is)
        (around-falls (arrivals (down_writes r nb)) r.up (expiries r.polls) ue (sym same.acknowledged ∙ mode)
        (ue-round r nb ue) ue-octets some)

-- ---- a poll timer that runs still runs behind what a bearer writes

-- the deeds of a bearer that writes
abbrev IsOfWriting : Deed → Type 0
IsOfWriting Feeds = Unit {0}
IsOfWriting (Sends (Offer sdu)) = ⊥
IsOfWriting (Sends (Taking size held more)) = Unit {0}
IsOfWriting (Sends (Status status)) = ⊥
IsOfWriting (Sends TickSender) = ⊥
IsOfWriting (Sends (ExpireSender more)) = ⊥
IsOfWriting (Sends (Settle more)) = ⊥
IsOfWriting (Sends HandOver) = ⊥
IsOfWriting Confirms = ⊥
IsOfWriting (Receives c) = Unit {0}
IsOfWriting HandsUp = ⊥
IsOfWriting (Asks c) = ⊥
IsOfWriting (Sets ttis) = ⊥

only-writes : (b : Bool) (deed : Deed) → IsOfWriting deed → AllByRecursion IsOfWriting (only_if b deed)
only-writes true deed h = (h, tt)
only-writes false deed h = tt

feeds-write : (ps : List (List ℕ)) → AllByRecursion IsOfWriting (map (λ pdu. Feeds) ps)
feeds-write [] = tt
feeds-write (p ∷ ps) = (tt, feeds-write ps)

takes-write : (b : State) (share : ℕ) (held : Option ℕ) → AllByRecursion IsOfWriting (deeds_of b (Take share held))
takes-write b share held =
    let first = only_if (writes_status b.rx share) (Receives Write) in
    let fed = map (λ pdu. Feeds) (offers_in b share held) in
    let last' = Sends (Taking (data_size b share) held (has_more_behind b share held)) ∷ [] in
    all_then IsOfWriting (first ++ fed) last'
    (all_then IsOfWriting first fed (only-writes (writes_status b.rx share) (Receives Write) tt)
    (feeds-write (offers_in b share held))) (tt, tt)

polled-runs : (w : Bool) (s : Sender) → runs s.polls.timer ≡ true → runs (with_poll w s).polls.timer ≡ true
polled-runs true s e = refl
polled-runs false s e = e

turn-runs : (t : Turn) (s : Sender) (size : ℕ) (more : Bool) → runs s.polls.timer ≡ true
    → runs (after_turn t s size more).polls.timer ≡ true
unfolding after_turn
turn-runs turns.Whole s size more e = polled-runs (is_wanted (sent_whole s) more) (sent_whole s) e
turn-runs turns.Part s size more e = polled-runs (is_wanted (sent_segment s size) more) (sent_segment s size) e
turn-runs turns.New s size more e = polled-runs (is_wanted (sent_new s size) more) (sent_new s size) e
turn-runs turns.Idle s size more e = e
turn-runs turns.Stopped s size more e = e
turn-runs turns.Small s size more e = e
turn-runs turns.Shut s size more e = e
turn-runs turns.Held s size more e = e

offered-runs : (o : Option Next) (s : Sender) → runs s.polls.timer ≡ true
    → runs (offered_next o s).polls.timer ≡ true
offered-runs None s e = e
offered-runs (Some next) s e = e

deed-runs : (deed : Deed) (b : State) → IsOfWriting deed → runs b.tx.polls.timer ≡ true
    → runs (does b deed).tx.polls.timer ≡ true
deed-runs Feeds b h e = offered-runs (taking b.pdcp.tx) b.tx e
deed-runs (Sends (Offer sdu)) b h e = absurd h
deed-runs (Sends (Taking size held more)) b h e = turn-runs (turn b.tx size held more) b.tx size more e
deed-runs (Sends (Status status)) b h e = absurd h
deed-runs (Sends TickSender) b h e = absurd h
deed-runs (Sends (ExpireSender more)) b h e = absurd h
deed-runs (Sends (Settle more)) b h e = absurd h
deed-runs (Sends HandOver) b h e = absurd h
deed-runs Confirms b h e = absurd h
deed-runs (Receives c) b h e = e
deed-runs HandsUp b h e = absurd h
deed-runs (Asks c) b h e = absurd h
deed-runs (Sets ttis) b h e = absurd h

deeds-run : (deeds : List Deed) (b : State) → AllByRecursion IsOfWriting deeds → runs b.tx.polls.timer ≡ true
    → runs (does_all deeds b).tx.polls.timer ≡ true
deeds-run [] b h e = e
deeds-run (deed ∷ deeds) b h e = deeds-run deeds (does b deed) h.1 (deed-runs deed b h.0 e)

share-runs : (here : Bool) (share : ℕ) (held : Option ℕ) (b : State) → runs b.tx.polls.timer ≡ true
    → runs (behind (takes_in (record { here = here; octets = share; held = held })) b).tx.polls.timer ≡ true
share-runs true share held b e = deeds-run (deeds_of b (Take share held)) b (takes-write b share held) e
share-runs false share held b e = e

-- ---- so that it expires

abbrev receivers : List Call
receivers = Expire Reorder ∷ Expire Prohibit ∷ []

recalled : (xs : List Call) (ps : List (List ℕ)) (polls : Bool) → ps ≡ [] → polls ≡ true
    → xs ++ (arrivals ps ++ expiries polls) ≡ (xs ++ receivers) ++ Expire Poll ∷ []
recalled xs ps polls none e =
    ap (λ (qs : List (List ℕ)). xs ++ (arrivals qs ++ expiries polls)) none
    ∙ ap (λ (b : Bool). xs ++ expiries b) e
    ∙ sym (append_assoc xs receivers (Expire Poll ∷ []))

still-runs : (s : Share) (b : State) → runs b.tx.polls.timer ≡ true
    → runs (behind (takes_in s ++ receivers) b).tx.polls.timer ≡ true
still-runs s b e =
    ap (λ (d : State). runs d.tx.polls.timer) (behind-then (takes_in s) receivers b)
    ∙ share-runs s.here s.octets s.held b e

-- ---- both bearers acknowledged

module _ (r : Round) (nb ue : State) (n : Stands nb) (u : Stands ue) (c : CostsBoth r nb ue n u) where
  abbrev fell : ℕ
  fell = measure_from c.nb' c.nb_stands.lived c.ue' + measure_from c.ue' c.ue_stands.lived c.nb'

  abbrev had : ℕ
  had = measure_from nb n.lived ue + measure_from ue u.lived nb

  nb-recalled : r.polls ≡ true → up_writes r (Am nb) (Am ue) ≡ [] → AwaitsPoll (Am nb) → fell + 1 ≤ had
  nb-recalled polls none w =
      let pays = c.down.recalls (takes_in r.down ++ receivers)
      (recalled (takes_in r.down) (up_writes r (Am nb) (Am ue)) r.polls none polls) (still-runs r.down nb w.1) w.0 in
      omega (arith, pays, c.up.falls)

  ue-recalled : r.polls ≡ true → down_writes r (Am nb) ≡ [] → AwaitsPoll (Am ue) → fell + 1 ≤ had
  ue-recalled polls none w =
      let calls = ap (λ (ps : List (List ℕ)). arrivals ps ++ (takes_in r.up ++ expiries r.polls)) none
      ∙ recalled (takes_in r.up) [] r.polls refl polls in
      let pays = c.up.recalls (takes_in r.up ++ receivers) calls (still-runs r.up ue w.1) w.0 in
      omega (arith, pays, c.down.falls)

acknowledged : (r : Round) (nb ue : State) (nb' ue' : Flow) → IsRound r (Am nb) (Am ue) nb' ue'
    → AreAlike (Am nb) (Am ue) → OffersOctets nb
    → WritesOctets (after_all (Am ue) (arrivals (down_writes r (Am nb)))) → (h : Stands nb × Stands ue)
    → RoundFalls r (Am nb) (Am ue) nb' ue' h
acknowledged r nb ue nb' ue' is same nb-offers ue-offers h =
    let came = arrivals (writes_in r.down (Am nb)) in
    let mid = (stands-on came ue h.1 (others-give came ue (arrivals-other (writes_in r.down (Am nb))))).left in
    let x = rounds_cost_both r nb ue h.0 h.1 nb-offers (subst WritesOctets mid ue-offers) in
    subst (λ (f : Flow). RoundFalls r (Am nb) (Am ue) f ue' h) (x.is.nb_is ∙ sym is.nb_is)
    (subst (λ (f : Flow). RoundFalls r (Am nb) (Am ue) (Am x.nb') f h) (x.is.ue_is ∙ sym is.ue_is)
    (record {
      left = (x.nb_stands, x.ue_stands);
      alike = record { transparent = refl; acknowledged = refl };
      nb_top = x.nb_top;
      ue_top = x.ue_top;
      rests = omega (arith, x.down.falls, x.up.falls);
      writes = λ a b w. writers_pay r nb ue h.0 h.1 x a b w;
      recalls = λ polls down up w. elim w [
        | inl near ↦ nb-recalled r nb ue h.0 h.1 x polls up near
        | inr far ↦ ue-recalled r nb ue h.0 h.1 x polls down far
      ];
    }))

pub channels_fall : ChannelsFall
channels_fall r (Tm b) ue nb' ue' is same nb-octets ue-octets h =
    others r (Tm b) ue nb' ue' is same nb-octets ue-octets h refl
channels_fall r (Um b) ue nb' ue' is same nb-octets ue-octets h =
    others r (Um b) ue nb' ue' is same nb-octets ue-octets h refl
channels_fall r (Am b) (Tm d) nb' ue' is same nb-octets ue-octets h =
    let no' : true ≡ false = same.acknowledged in absurd cc
channels_fall r (Am b) (Um d) nb' ue' is same nb-octets ue-octets h =
    let no' : true ≡ false = same.acknowledged in absurd cc
channels_fall r (Am b) (Am d) nb' ue' is same nb-octets ue-octets h =
    acknowledged r b d nb' ue' is same nb-octets ue-octets h
