-- What PDCP's sender keeps of what it gave is what RLC's hasn't told it of.
use Rattle.std.proofs.Common.{◌≡◌, ◌<◌, ℕ, suc, ◌+◌, ◌-◌, ◌==◌, Bool, true, false, ◌||◌, ◌&&◌}
use Rattle.std.proofs.Common.{if◌then◌else◌, List, [], ◌∷◌, ◌++◌, length, map, take, Option, Some, None, option_map}
use Rattle.std.proofs.Common.{refl}
use Rattle.std.proofs.Common.{ap, sym, subst, ◌∙◌, arith, nat_lt, append-nil}
use Rattle.std.proofs.lemmas.Bool.Decides.{nat_tests}
use Rattle.std.specs.Prelude.{is_some, slice_get}
use Rattle.std.specs.List.{AllByRecursion}
use Rattle.l2_types.specs.declared.config.AmTxConfig.{AmTxConfig}
use Rattle.pdcp_pdu.specs.Kinds.{is_am}
use Rattle.pdcp_pdu.specs.declared.pdu.PdcpKind.{PdcpKind}
use Rattle.pdcp_sec.specs.Protection.{Protection}
use Rattle.pdcp_rx.specs.Heard.{Heard, Bad, Told, Data as DataHeard, heard as heard_by}
use Rattle.pdcp_tx_store.specs.declared.given.Sent.{Sent as GivenSdu}
use Rattle.pdcp_tx_store.specs.declared.given.Entry.{Entry}
use Rattle.pdcp_tx_store.specs.declared.given.Entry.TheVariants.{Data, Own}
use Rattle.pdcp_tx_store.specs.Given.{Given, is_open, with_ack}
use Rattle.pdcp_tx_store.specs.Given.{with_entry, with_report}
use Rattle.pdcp_tx_store.specs.Waiting.{Waits}
use Rattle.pdcp_tx.specs.declared.sender.Next.{Next}
use Rattle.pdcp_tx.specs.Runs.{Call as PdcpCall, Submit, Take as TakePdcp, Confirm as ConfirmPdcp, Report, Owe}
use Rattle.pdcp_tx.specs.Runs.{Tick as TickPdcp, Late, after as after_pdcp}
use Rattle.pdcp_tx.specs.State.{State as PdcpState, start, sent, submitted, took, took_owed, took_again, took_new}
use Rattle.pdcp_tx.specs.State.{confirmed, reported, reported_from, fms_count, after_late, offers, owed_offers}
use Rattle.pdcp_tx.specs.State.{again_offer, new_offers, taking, written, Offer as PdcpOffer, left as pdcp_left}
use Rattle.rlc_am_tx.specs.Need.{left as rlc_left}
use Rattle.rlc_am_tx.specs.declared.turn.Turn.{Turn}
use Rattle.rlc_am_tx.specs.declared.turn.Turn.TheVariants as turns
use Rattle.rlc_am_tx.specs.Machine.{State as Sender, turn, start as start_sender}
use Rattle.law_rlc.specs.AmSender.Confirmed.{Confirmations, unconfirmed, confirmations_after, sent_by as confirmed_by}
use Rattle.law_rlc.specs.AmSender.Confirmed.{times}
use Rattle.law_rlc.specs.AmSender.Octets.{HasOctets}
use Rattle.law_rlc.specs.AmSender.Run.{Call, Offer, Take, Status, Tick, Expire, Settle, Confirm, World, after}
use Rattle.law_rlc.specs.AmSender.Run.{run_am_sender, begun}
use Rattle.law_rlc.proofs.AmSender.Confirms.{Keeps, after-keeps, begun-keeps}
use Rattle.law_rlc.proofs.AmSender.Credits.{octets_at, at-past, owed_at, times-append}
use Rattle.law_rlc.proofs.AmSender.Left.{leaves-only-unconfirmed}
use Rattle.law_rlc.specs.AmSender.Left.{AllAreConfirmed}
use Rattle.law_rlc.proofs.AmSender.Owed.{Books, books_after}
use Rattle.bearer.specs.Acknowledged.State.{State, has_more}
use Rattle.bearer.specs.Acknowledged.Sums.{is_drained}
use Rattle.law_bearer.specs.AmBearer.Deeds.{Deed, Feeds, Sends, Confirms, Receives, HandsUp, Asks, Sets, does, does_all}
use Rattle.law_bearer.specs.AmBearer.Deeds.{offered_next, confirms_first, hands_first, after_heard}
use Rattle.law_bearer.specs.AmBearer.Sending.{sends_at, sends_in, offers_next}
use Rattle.law_pdcp.specs.OneEnd.Lives.{Step, Calls, run_pdcp_sender}
use Rattle.law_pdcp.proofs.OneEnd.KindStays.{kind_stays}
use Rattle.law_drain.specs.Done.{GivesAll, IsOfRlc, IsOfUsers, IsOfLife, nothing_given, SentIsDrained}
use Rattle.law_drain.proofs.BearerQuiet.{HasGiven, deeds-given}
use Rattle.law_drain.proofs.Come.{first-all, last-all, both-all}
use Rattle.law_drain.proofs.Done.{none-left, none-unacked, given_is_done, run-kind, start-kind}
use Rattle.law_drain.proofs.Kept.{open_at, BeginsOpen, Kept, trimmed-front, kept-settled, kept-more, more-front}
use Rattle.law_drain.proofs.Kept.{kept-acked}
use Rattle.law_drain.proofs.Kept.{kept-heard}

-- ---- calls of PDCP's sender

record Holds (s : PdcpState) (offered : ℕ) (told : List ℕ) : Type 0 where
  kept : Kept s.given offered told
  front : BeginsOpen s.given.entries

holds-as : (s t : PdcpState) (offered : ℕ) (told : List ℕ) → t.given ≡ s.given → Holds s offered told
    → Holds t offered told
holds-as s t offered told e h = record {
  kept = subst (λ (g : Given). Kept g offered told) (sym e) h.kept;
  front = subst (λ (g : Given). BeginsOpen g.entries) (sym e) h.front;
}

some-new : (n : ℕ) (ws : List Waits) → is_some (slice_get (new_offers n ws) 0) ≡ true → 0 < length ws
some-new n [] e = let no' : false ≡ true = e in cc
some-new n (w ∷ ws) e = omega arith

new-holds : (ws : List Waits) (s : PdcpState) (offered : ℕ) (told : List ℕ) → is_am s.kind ≡ true
    → times offered told ≡ 0 → Holds s offered told → 0 < length ws → Holds (took_new ws s) (offered + 1) told
new-holds [] s offered told am none h some = absurd (omega (arith, some))
new-holds (w ∷ ws) s offered told am none h some = rw am (record {
  kept = kept-more s.given (Data (sent s.next w.sdu false)) offered told none h.kept;
  front = more-front s.given.entries (Data (sent s.next w.sdu false)) refl h.front;
})

took-holds : (owed : Option (List ℕ)) (again : List GivenSdu) (s : PdcpState) (offered : ℕ) (told : List ℕ)
    → s.again ≡ again → is_am s.kind ≡ true → times offered told ≡ 0 → Holds s offered told
    → is_some (slice_get (owed_offers owed ++ map again_offer again
    ++ new_offers s.next (take (s.bound - s.next) s.waiting)) 0) ≡ true
    → Holds (took_owed owed s) (offered + 1) told
took-holds (Some report) again s offered told a am none h some = record {
  kept = kept-more s.given Own offered told none h.kept;
  front = more-front s.given.entries Own refl h.front;
}
took-holds None (x ∷ xs) s offered told a am none h some =
    subst (λ (ss : List GivenSdu). Holds (took_again ss s) (offered + 1) told) (sym a) (record {
      kept = kept-settled (with_entry s.given (Data x)) (offered + 1) told
          (kept-more s.given (Data x) offered told none h.kept);
      front = trimmed-front (with_entry s.given (Data x)).entries;
    })
took-holds None [] s offered told a am none h some =
    subst (λ (ss : List GivenSdu). Holds (took_again ss s) (offered + 1) told) (sym a)
    (new-holds (take (s.bound - s.next) s.waiting) s offered told am none h
    (some-new s.next (take (s.bound - s.next) s.waiting) some))

new-none : (ws : List Waits) (n : ℕ) (s : PdcpState) → is_some (slice_get (new_offers n ws) 0) ≡ false
    → (took_new ws s).given ≡ s.given
new-none [] n s e = refl
new-none (w ∷ ws) n s e = let no' : true ≡ false = e in cc

took-none : (owed : Option (List ℕ)) (again : List GivenSdu) (s : PdcpState) → s.again ≡ again
    → is_some (slice_get (owed_offers owed ++ map again_offer again
    ++ new_offers s.next (take (s.bound - s.next) s.waiting)) 0) ≡ false → (took_owed owed s).given ≡ s.given
took-none (Some report) again s a e = let no' : true ≡ false = e in cc
took-none None (x ∷ xs) s a e = let no' : true ≡ false = e in cc
took-none None [] s a e =
    subst (λ (ss : List GivenSdu). (took_again ss s).given ≡ s.given) (sym a)
    (new-none (take (s.bound - s.next) s.waiting) s.next s e)

taking-some : (s : PdcpState) → is_some (taking s) ≡ is_some (slice_get (offers s) 0)
unfolding taking
taking-some s = by (slice_get (offers s) 0)
  where
    by : (o : Option PdcpOffer)
        → is_some (option_map (λ x. written s.kind s.protection x.count x.text) o) ≡ is_some o
    by None = refl
    by (Some x) = refl

abbrev taken_by : Option Next → ℕ
taken_by None = 0
taken_by (Some next) = 1

shown : (s : PdcpState)
    → is_some (slice_get (owed_offers s.owed ++ map again_offer s.again
    ++ new_offers s.next (take (s.bound - s.next) s.waiting)) 0) ≡ is_some (slice_get (offers s) 0)
unfolding offers
shown s = refl

take-holds : (s : PdcpState) (offered : ℕ) (told : List ℕ) → is_am s.kind ≡ true → times offered told ≡ 0
    → Holds s offered told → Holds (after_pdcp s TakePdcp) (offered + taken_by (taking s)) told
unfolding took
take-holds s offered told am none h = by (taking s) refl
  where
    by : (o : Option Next) → taking s ≡ o → Holds (took_owed s.owed s) (offered + taken_by o) told
    by (Some next) e = took-holds s.owed s.again s offered told refl am none h (first' e)
      where
        first' : taking s ≡ Some next
            → is_some (slice_get (owed_offers s.owed ++ map again_offer s.again
            ++ new_offers s.next (take (s.bound - s.next) s.waiting)) 0) ≡ true
        first' q = shown s ∙ sym (taking-some s) ∙ ap (λ (x : Option Next). is_some x) q
    by None e =
        let same : (took_owed s.owed s).given ≡ s.given =
        took-none s.owed s.again s refl (shown s ∙ sym (taking-some s) ∙ ap (λ (x : Option Next). is_some x) e) in
        holds-as s (took_owed s.owed s) (offered + 0) told same
        (subst (λ (n : ℕ). Holds s n told) (omega arith) h)

confirm-holds : (s : PdcpState) (place offered : ℕ) (told : List ℕ) → Holds s offered told
    → Holds (confirmed s place) offered (told ++ place ∷ [])
unfolding confirmed
confirm-holds s place offered told h = record {
  kept = kept-settled (with_ack s.given place) offered (told ++ place ∷ [])
      (kept-acked s.given place offered told h.kept);
  front = trimmed-front (with_ack s.given place).entries;
}

report-holds : (c : Option ℕ) (s : PdcpState) (bitmap : List ℕ) (offered : ℕ) (told : List ℕ) → Holds s offered told
    → Holds (reported_from c s bitmap) offered told
report-holds None s bitmap offered told h = h
report-holds (Some from) s bitmap offered told h = record {
  kept = kept-settled (with_report s.given from bitmap) offered told
      (kept-heard s.given from bitmap offered told h.kept);
  front = trimmed-front (with_report s.given from bitmap).entries;
}

heard-holds : (x : Heard) (s : PdcpState) (offered : ℕ) (told : List ℕ) → Holds s offered told
    → Holds (after_heard x s) offered told
unfolding reported
heard-holds (Bad refusal) s offered told h = h
heard-holds (Told fms bitmap) s offered told h = report-holds (fms_count s.kind s.base fms) s bitmap offered told h
heard-holds (DataHeard sn body) s offered told h = h

asked-holds : (s : PdcpState) (c : PdcpCall) (offered : ℕ) (told : List ℕ) → IsOfUsers c → Holds s offered told
    → Holds (after_pdcp s c) offered told
unfolding submitted after_late
asked-holds s (Submit sdu) offered told u h = record { kept = h.kept; front = h.front }
asked-holds s TakePdcp offered told u h = absurd u
asked-holds s (ConfirmPdcp place) offered told u h = absurd u
asked-holds s (Report fms bitmap) offered told u h = absurd u
asked-holds s (Owe report) offered told u h = absurd u
asked-holds s TickPdcp offered told u h = record { kept = h.kept; front = h.front }
asked-holds s Late offered told u h = record { kept = h.kept; front = h.front }

heard-kind : (x : Heard) (s : PdcpState) → (after_heard x s).kind ≡ s.kind
heard-kind (Bad refusal) s = refl
heard-kind (Told fms bitmap) s = kind_stays s (Calls (Report fms bitmap))
heard-kind (DataHeard sn body) s = refl

-- ---- both senders

record HasConfirmed (s : Sender) (g : Confirmations) : Type 0 where
  config : AmTxConfig
  calls : List Call
  some : AllByRecursion HasOctets calls
  is : run_am_sender confirmations_after calls (begun config unconfirmed) ≡ record { state = s; past = g }

run-one : (cs : List Call) (c : Call) (w : World Confirmations)
    → run_am_sender confirmations_after (cs ++ c ∷ []) w
    ≡ run_am_sender confirmations_after (c ∷ []) (run_am_sender confirmations_after cs w)
run-one [] c w = refl
run-one (d ∷ ds) c w = run-one ds c (record { state = after w.state d; past = confirmations_after w.state d w.past })

confirmed-next : (s : Sender) (c : Call) (g : Confirmations) → HasConfirmed s g → HasOctets c
    → HasConfirmed (after s c) (confirmations_after s c g)
confirmed-next s c g h one = record {
  config = h.config;
  calls = h.calls ++ c ∷ [];
  some = both-all h.calls (c ∷ []) h.some (one, tt);
  is = run-one h.calls c (begun h.config unconfirmed) ∙ ap (run_am_sender confirmations_after (c ∷ [])) h.is;
}

record Tied (b : State) (g : Confirmations) : Type 0 where
  come : HasConfirmed b.tx g
  books : Books
  keeps : Keeps b.tx g books
  holds : Holds b.pdcp.tx g.offered g.given
  am : is_am b.pdcp.tx.kind ≡ true

-- RLC has told nothing of a place before it is offered one
none-told : (b : State) (g : Confirmations) → Tied b g → times g.offered g.given ≡ 0
none-told b g t =
    let tells = (t.keeps.follows.tells g.offered).count in
    let past = at-past 0 t.books.sizes g.offered (omega (arith, t.keeps.owns.offered)) in
    let off : nat_lt 0 (octets_at 0 t.books.sizes g.offered) ≡ false = grind (arith, nat_tests, past) in
    let none : times g.offered (t.books.given ++ b.tx.accounts.news) ≡ 0 =
    tells ∙ ap (λ (x : Bool). if x && (owed_at b.tx.accounts g.offered == 0) then 1 else 0) off in
    let parts = times-append g.offered t.books.given b.tx.accounts.news in
    let same : times g.offered t.books.given ≡ times g.offered g.given =
    ap (λ (xs : List ℕ). times g.offered xs) t.keeps.given in
    omega (arith, none, parts, same)

turn-offered : (t : Turn) (s : Sender) (size : ℕ) (g : Confirmations) → (confirmed_by t s size g).offered ≡ g.offered
turn-offered turns.New s size g = refl
turn-offered turns.Whole s size g = refl
turn-offered turns.Part s size g = refl
turn-offered turns.Idle s size g = refl
turn-offered turns.Stopped s size g = refl
turn-offered turns.Small s size g = refl
turn-offered turns.Shut s size g = refl
turn-offered turns.Held s size g = refl

turn-given : (t : Turn) (s : Sender) (size : ℕ) (g : Confirmations) → (confirmed_by t s size g).given ≡ g.given
turn-given turns.New s size g = refl
turn-given turns.Whole s size g = refl
turn-given turns.Part s size g = refl
turn-given turns.Idle s size g = refl
turn-given turns.Stopped s size g = refl
turn-given turns.Small s size g = refl
turn-given turns.Shut s size g = refl
turn-given turns.Held s size g = refl

holds-told : (s : PdcpState) (m n : ℕ) (xs ys : List ℕ) → n ≡ m → ys ≡ xs → Holds s m xs → Holds s n ys
holds-told s m n xs ys e f h =
    subst (λ (k : ℕ). Holds s k ys) (sym e) (subst (λ (zs : List ℕ). Holds s m zs) (sym f) h)

rlc-holds : (s : Sender) (c : Call) (g : Confirmations) (p : PdcpState) → IsOfRlc c → Holds p g.offered g.given
    → Holds p (confirmations_after s c g).offered (confirmations_after s c g).given
rlc-holds s (Offer sdu) g p r h = absurd r
rlc-holds s (Take size held more) g p r h =
    holds-told p g.offered (confirmed_by (turn s size held more) s size g).offered g.given
    (confirmed_by (turn s size held more) s size g).given (turn-offered (turn s size held more) s size g)
    (turn-given (turn s size held more) s size g) h
rlc-holds s (Status status) g p r h = h
rlc-holds s Tick g p r h = h
rlc-holds s (Expire more) g p r h = h
rlc-holds s (Settle more) g p r h = h
rlc-holds s Confirm g p r h = absurd r

rlc-octets : (c : Call) → IsOfRlc c → HasOctets c
rlc-octets (Offer sdu) r = absurd r
rlc-octets (Take size held more) r = tt
rlc-octets (Status status) r = tt
rlc-octets Tick r = tt
rlc-octets (Expire more) r = tt
rlc-octets (Settle more) r = tt
rlc-octets Confirm r = absurd r

-- ---- a deed

fed-tied : (o : Option Next) (b : State) (p : PdcpState) (g : Confirmations) → Tied b g
    → AllByRecursion HasOctets (offers_next o) → is_am p.kind ≡ true → Holds p (g.offered + taken_by o) g.given
    → (h : Confirmations)
    × Tied (record b { pdcp = record b.pdcp { tx = p }; tx = offered_next o b.tx }) h
fed-tied None b p g t some am h = (
  g,
  record {
    come = t.come;
    books = t.books;
    keeps = t.keeps;
    holds = subst (λ (n : ℕ). Holds p n g.given) (omega arith) h;
    am = am;
  },
)
fed-tied (Some next) b p g t some am h = (
  confirmations_after b.tx (Offer next.octets) g,
  record {
    come = confirmed-next b.tx (Offer next.octets) g t.come some.0;
    books = books_after b.tx (Offer next.octets) t.books;
    keeps = after-keeps b.tx (Offer next.octets) g t.books t.keeps;
    holds = h;
    am = am;
  },
)

confirms-tied : (places : List ℕ) (b : State) (g : Confirmations) → b.tx.accounts.news ≡ places → Tied b g
    → (h : Confirmations) × Tied (confirms_first places b) h
confirms-tied [] b g e t = (g, t)
confirms-tied (place ∷ places) b g e t = (
  confirmations_after b.tx Confirm g,
  record {
    come = confirmed-next b.tx Confirm g t.come tt;
    books = books_after b.tx Confirm t.books;
    keeps = after-keeps b.tx Confirm g t.books t.keeps;
    holds = holds-told (confirmed b.pdcp.tx place) g.offered g.offered (g.given ++ place ∷ [])
        (confirmations_after b.tx Confirm g).given refl (rw e refl)
        (confirm-holds b.pdcp.tx place g.offered g.given t.holds);
    am = ap is_am (kind_stays b.pdcp.tx (Calls (ConfirmPdcp place))) ∙ t.am;
  },
)

hands-tied : (sdus : List (List ℕ)) (b : State) (g : Confirmations) → Tied b g
    → (h : Confirmations) × Tied (hands_first sdus b) h
hands-tied [] b g t = (g, t)
hands-tied (sdu ∷ sdus) b g t = (
  g,
  record {
    come = t.come;
    books = t.books;
    keeps = t.keeps;
    holds = heard-holds (heard_by b.pdcp.rx.kind sdu) b.pdcp.tx g.offered g.given t.holds;
    am = ap is_am (heard-kind (heard_by b.pdcp.rx.kind sdu) b.pdcp.tx) ∙ t.am;
  },
)

deed-tied : (deed : Deed) (b : State) (g : Confirmations) → Tied b g → AllByRecursion HasOctets (sends_at b deed)
    → IsOfLife deed → (h : Confirmations) × Tied (does b deed) h
deed-tied Feeds b g t some life =
    fed-tied (taking b.pdcp.tx) b (after_pdcp b.pdcp.tx TakePdcp) g t some
    (ap is_am (kind_stays b.pdcp.tx (Calls TakePdcp)) ∙ t.am)
    (take-holds b.pdcp.tx g.offered g.given t.am (none-told b g t) t.holds)
deed-tied (Sends c) b g t some life = (
  confirmations_after b.tx c g,
  record {
    come = confirmed-next b.tx c g t.come (rlc-octets c life);
    books = books_after b.tx c t.books;
    keeps = after-keeps b.tx c g t.books t.keeps;
    holds = rlc-holds b.tx c g b.pdcp.tx life t.holds;
    am = t.am;
  },
)
deed-tied Confirms b g t some life = confirms-tied b.tx.accounts.news b g refl t
deed-tied (Receives c) b g t some life =
    (g, record { come = t.come; books = t.books; keeps = t.keeps; holds = t.holds; am = t.am })
deed-tied HandsUp b g t some life = hands-tied b.rx.out.ready b g t
deed-tied (Asks c) b g t some life = (
  g,
  record {
    come = t.come;
    books = t.books;
    keeps = t.keeps;
    holds = asked-holds b.pdcp.tx c g.offered g.given life t.holds;
    am = ap is_am (kind_stays b.pdcp.tx (Calls c)) ∙ t.am;
  },
)
deed-tied (Sets ttis) b g t some life = (
  g,
  record {
    come = t.come;
    books = t.books;
    keeps = t.keeps;
    holds = record { kept = t.holds.kept; front = t.holds.front };
    am = t.am;
  },
)

deeds-tied : (deeds : List Deed) (b : State) (g : Confirmations) → Tied b g
    → AllByRecursion HasOctets (sends_in deeds b)
    → AllByRecursion IsOfLife deeds → (h : Confirmations) × Tied (does_all deeds b) h
deeds-tied [] b g t some life = (g, t)
deeds-tied (deed ∷ deeds) b g t some life =
    let one = deed-tied deed b g t (first-all (sends_at b deed) (sends_in deeds (does b deed)) some) life.0 in
    deeds-tied deeds (does b deed) one.0 one.1 (last-all (sends_at b deed) (sends_in deeds (does b deed)) some) life.1

-- ---- where nothing is left

-- of the first that PDCP keeps RLC has told
none-kept : (es : List Entry) (b : State) (g : Confirmations) → b.pdcp.tx.given.entries ≡ es → Tied b g
    → ((place : ℕ) → place < g.offered → times place (g.given ++ b.tx.accounts.news) ≡ 1)
    → b.tx.accounts.news ≡ [] → es ≡ []
none-kept [] b g e t all none = refl
none-kept (x ∷ xs) b g e t all none =
    let some : length b.pdcp.tx.given.entries ≡ suc (length xs) = ap (λ (ys : List Entry). length ys) e in
    let told : times b.pdcp.tx.given.gone g.given ≡ 1 =
    sym (ap (λ (ys : List ℕ). times b.pdcp.tx.given.gone ys)
    (ap (λ (ys : List ℕ). g.given ++ ys) none ∙ append-nil g.given))
    ∙ all b.pdcp.tx.given.gone (omega (arith, t.holds.kept.many, some)) in
    let at : b.pdcp.tx.given.gone + 0 ≡ b.pdcp.tx.given.gone = omega arith in
    let shut : open_at b.pdcp.tx.given.entries 0 ≡ false =
    t.holds.kept.closed' 0 (ap (λ (n : ℕ). times n g.given) at ∙ told) in
    let shut' : is_open x ≡ false = sym (ap (λ (ys : List Entry). open_at ys 0) e) ∙ shut in
    let front : is_open x ≡ true = subst BeginsOpen e t.holds.front in
    let no' : true ≡ false = sym front ∙ shut' in cc

pub is-drained : (b : State) → pdcp_left b.pdcp.tx ≡ 0 → rlc_left b.tx ≡ 0 → has_more b.pdcp ≡ false
    → is_drained b ≡ true
unfolding is_drained
is-drained b one two none = rw (one, two, none) (last b.tx.failed)
  where
    last : (f : Bool) → (f || true) ≡ true
    last true = refl
    last false = refl

begins-tied : (b : State) → is_am b.pdcp.tx.kind ≡ true → b.pdcp.tx.given ≡ nothing_given
    → b.tx ≡ start_sender b.tx_config → Tied b unconfirmed
begins-tied b am none e = record {
  come = record {
    config = b.tx_config;
    calls = [];
    some = tt;
    is = ap (λ (s : Sender). record { state = s; past = unconfirmed }) (sym e);
  };
  books = record { sizes = []; given = [] };
  keeps = subst (λ (s : Sender). Keeps s unconfirmed (record { sizes = []; given = [] })) (sym e)
      (begun-keeps b.tx_config);
  holds = record {
    kept = subst (λ (g : Given). Kept g 0 []) (sym none)
        (record { many = refl; closed' = λ k t. refl });
    front = subst (λ (g : Given). BeginsOpen g.entries) (sym none) tt;
  };
  am = am;
}

run-am : (steps : List Step) (kind : PdcpKind) (p : Protection) (first : ℕ) → is_am kind ≡ true
    → is_am (run_pdcp_sender steps (start kind p first)).kind ≡ true
run-am steps kind p first am = ap is_am (run-kind steps (start kind p first) ∙ start-kind kind p first) ∙ am

pub sent_is_drained : SentIsDrained
sent_is_drained b kind p first steps deeds am given none e some life all =
    is-drained now
    (subst GivesAll gives.is (given_is_done gives.kind gives.p gives.first gives.steps same) kept more)
    left more
  where
    now : State
    now = does_all deeds b

    gives : HasGiven now.pdcp.tx
    gives = deeds-given deeds b (record { kind = kind; p = p; first = first; steps = steps; is = sym given })

    kinds : is_am b.pdcp.tx.kind ≡ true
    kinds = ap (λ (s : PdcpState). is_am s.kind) given ∙ run-am steps kind p first am

    tied : (h : Confirmations) × Tied now h
    tied = deeds-tied deeds b unconfirmed (begins-tied b kinds none e) some life

    same : is_am gives.kind ≡ true
    same = ap is_am (sym (run-kind gives.steps (start gives.kind gives.p gives.first)
        ∙ start-kind gives.kind gives.p gives.first) ∙ ap (λ (s : PdcpState). s.kind) gives.is) ∙ tied.1.am

    more : has_more now.pdcp ≡ false
    more = all.taken

    left : rlc_left now.tx ≡ 0
    left = none-left now.tx.accounts.oldest now.tx.accounts.entries (λ q.
        tied.1.keeps.follows.owed q
        ∙ none-unacked now.tx.window.slots now.tx.queue.sdus now.tx.place q all.acknowledged all.sent)

    confirms' : AllAreConfirmed (record { state = now.tx; past = tied.0 })
    confirms' = subst AllAreConfirmed tied.1.come.is
        (leaves-only-unconfirmed tied.1.come.config tied.1.come.calls tied.1.come.some)

    kept : now.pdcp.tx.given.entries ≡ []
    kept = none-kept now.pdcp.tx.given.entries now tied.0 refl tied.1 (confirms' left) all.told
