-- What PDCP keeps stands at its place in the stream.
use Rattle.std.proofs.Common.{◌≡◌, ℕ, ◌-◌, true, false, List, [], ◌∷◌}
use Rattle.std.proofs.Common.{◌++◌, map, take, Option, Some, None, append_assoc}
use Rattle.std.proofs.Common.{subst, refl, ap, sym, ◌∙◌, arith}
use Rattle.std.proofs.lemmas.List.{append-nil}
use Rattle.bearer_types.specs.declared.BearerConfig.{BearerConfig}
use Rattle.eps_sec.specs.declared.Keys.{Keys}
use Rattle.l2_types.specs.declared.Kind.{Kind}
use Rattle.l2_types.specs.declared.Kind.TheVariants as kinds
use Rattle.l2_types.specs.declared.Side.{Side}
use Rattle.pdcp_pdu.specs.declared.PdcpKind.{PdcpKind}
use Rattle.pdcp_pdu.specs.declared.PdcpKind.TheVariants as pdcp
use Rattle.pdcp_pdu.specs.Kinds.{is_am}
use Rattle.pdcp_tx_store.specs.declared.given.Sent.{Sent}
use Rattle.pdcp_tx_store.specs.declared.given.Entry.{Entry}
use Rattle.pdcp_tx_store.specs.declared.given.Entry.TheVariants.{Data, Own}
use Rattle.pdcp_tx_store.specs.Waiting.{Waits}
use Rattle.pdcp_tx_store.specs.Given.{Given, settled, with_entry}
use Rattle.pdcp_tx_store.specs.Given.{with_ack, with_report}
use Rattle.pdcp_tx.specs.State.{State, Offer, offers, owed_offers, again_offer, new_offers, start, submitted, took}
use Rattle.pdcp_tx.specs.State.{took_owed, took_again, took_new, confirmed, reported, reported_from, fms_count}
use Rattle.pdcp_tx.specs.State.{after_late, restarted as restarted_sending}
use Rattle.pdcp_tx.specs.Runs.{Submit, Take, Confirm, Report, Owe, Tick, Late}
use Rattle.law_pdcp.specs.OneEnd.Lives.{Step, Calls, SetDiscard, Restart, goes, run_pdcp_sender}
use Rattle.bearer_pdcp.specs.Ends.{Ends, begun}
use Rattle.bearer_pdcp.specs.Lives.{owing_report, report_of, restarted}
use Rattle.bearer.specs.declared.flow.Flow.{Flow}
use Rattle.bearer.specs.Bearer.{flow_of}
use Rattle.law_bearer.specs.AnyBearer.Calls.{Step as BearerStep, Restart as Next, goes as bearer_goes}
use Rattle.law_bearer.specs.AnyBearer.Calls.{run_bearer, reached, ends}
use Rattle.law_bearer.specs.AnyBearer.Stream.{taken}
use Rattle.law_pdcp.specs.OneEnd.Places.{IsKeptOf}
use Rattle.law_pdcp.proofs.OneEnd.Places as places
use Rattle.law_bearer.specs.AnyBearer.Places.{IsSdu, IsReport, AreAtPlaces, KeepsPlaces}
use Rattle.law_bearer.proofs.AnyBearer.Sender.{Doings, takes_at, doings, IsOfLife, AreOfLife, run_same}
use Rattle.law_bearer.proofs.AnyBearer.Parts.{lives_kind}
use Rattle.law_bearer.proofs.AnyBearer.Flows.{all_doings, life, life_taken, history, restarts_as, run_more}
use Rattle.law_bearer.proofs.AnyBearer.Streams.{begun_kind, am_begins}

-- ---- a report

settled_places : (g : Given) (os : List Offer) → AreAtPlaces g os → AreAtPlaces (settled g) os
settled_places = places.settled_places IsSdu IsReport

entry_places : (g : Given) (os : List Offer) (e : Entry) (o : Offer) → AreAtPlaces g os → IsKeptOf IsSdu IsReport e o
    → AreAtPlaces (with_entry g e) (os ++ o ∷ [])
entry_places = places.entry_places IsSdu IsReport

report_places : (s : State) (c : Option ℕ) (bitmap : List ℕ) (os : List Offer) → AreAtPlaces s.given os
    → AreAtPlaces (reported_from c s bitmap).given os
report_places s None bitmap os h = h
report_places s (Some from) bitmap os h =
    settled_places (with_report s.given from bitmap) os (places.report_places IsSdu IsReport s.given from bitmap os h)

-- ---- a take

new_places : (s : State) (ws : List Waits) (os : List Offer) → is_am s.kind ≡ true → AreAtPlaces s.given os
    → AreAtPlaces (took_new ws s).given (os ++ take 1 (new_offers s.next ws))
new_places s [] os am h = subst (AreAtPlaces s.given) (sym (append-nil os)) h
new_places s (w ∷ ws) os am h =
    rw am (entry_places s.given os (Data (record { count = s.next; octets = w.sdu; acked = false }))
    (record { count = Some s.next; text = w.sdu }) h (refl, refl))

again_places : (s : State) (ss : List Sent) (os : List Offer) → is_am s.kind ≡ true → AreAtPlaces s.given os
    → AreAtPlaces (took_again ss s).given
    (os ++ take 1 (map again_offer ss ++ new_offers s.next (take (s.bound - s.next) s.waiting)))
again_places s [] os am h = new_places s (take (s.bound - s.next) s.waiting) os am h
again_places s (x ∷ xs) os am h =
    settled_places (with_entry s.given (Data x)) (os ++ again_offer x ∷ [])
    (entry_places s.given os (Data x) (again_offer x) h (refl, refl))

owed_places : (s : State) (o : Option (List ℕ)) (os : List Offer) → is_am s.kind ≡ true → AreAtPlaces s.given os
    → AreAtPlaces (took_owed o s).given
    (os ++ take 1 (owed_offers o ++ map again_offer s.again ++ new_offers s.next (take (s.bound - s.next) s.waiting)))
owed_places s None os am h = again_places s s.again os am h
owed_places s (Some report) os am h = entry_places s.given os Own (record { count = None; text = report }) h refl

-- ---- any steps

step_places : (s : State) (x : Step) (os : List Offer) → IsOfLife x → is_am s.kind ≡ true → AreAtPlaces s.given os
    → AreAtPlaces (goes s x).given (os ++ takes_at s x)
unfolding submitted took confirmed reported after_late offers
step_places s (Calls (Submit sdu)) os l am h = subst (AreAtPlaces s.given) (sym (append-nil os)) h
step_places s (Calls Take) os l am h = owed_places s s.owed os am h
step_places s (Calls (Confirm place)) os l am h =
    subst (AreAtPlaces (confirmed s place).given) (sym (append-nil os))
    (settled_places (with_ack s.given place) os (places.ack_places IsSdu IsReport s.given place os h))
step_places s (Calls (Report fms bitmap)) os l am h =
    subst (AreAtPlaces (reported s fms bitmap).given) (sym (append-nil os))
    (report_places s (fms_count s.kind s.base fms) bitmap os h)
step_places s (Calls (Owe report)) os l am h = absurd l
step_places s (Calls Tick) os l am h = subst (AreAtPlaces s.given) (sym (append-nil os)) h
step_places s (Calls Late) os l am h = subst (AreAtPlaces s.given) (sym (append-nil os)) h
step_places s (SetDiscard ttis) os l am h = subst (AreAtPlaces s.given) (sym (append-nil os)) h
step_places s (Restart keys) os l am h = absurd l

run_places : (s : State) (xs : List Step) (os : List Offer) → AreOfLife xs → is_am s.kind ≡ true
    → AreAtPlaces s.given os → AreAtPlaces (run_pdcp_sender xs s).given (os ++ (doings s xs).taken)
run_places s [] os l am h = subst (AreAtPlaces s.given) (sym (append-nil os)) h
run_places s (x ∷ xs) os l am h =
    let kind = (run_same s (x ∷ []) (l.0, tt)).kind in
    subst (AreAtPlaces (run_pdcp_sender xs (goes s x)).given)
    (append_assoc os (takes_at s x) (doings (goes s x) xs).taken)
    (run_places (goes s x) xs (os ++ takes_at s x) l.1 (ap is_am kind ∙ am) (step_places s x os l.0 am h))

-- ---- a life from its beginning on

life_places : (f : Flow) (e : Ends) → ends f ≡ Some e → is_am e.tx.kind ≡ true
    → e.tx.given ≡ record { gone = 0; entries = [] } → KeepsPlaces f
life_places f e q am g cs d r =
    let l = life f e cs q in
    let some : Some l.next ≡ Some d = sym l.is ∙ r in
    let same : l.next ≡ d = cc in
    let none : AreAtPlaces (record { gone = 0; entries = [] }) [] = record { few = omega arith; entries = tt } in
    let here : AreAtPlaces (run_pdcp_sender l.passed.tx.steps e.tx).given (doings e.tx l.passed.tx.steps).taken =
    run_places e.tx l.passed.tx.steps [] l.passed.tx.life am (subst (λ (x : Given). AreAtPlaces x []) (sym g) none) in
    let at : AreAtPlaces l.next.tx.given (taken f cs) =
    subst (λ os. AreAtPlaces l.next.tx.given os) (sym (ap (λ (a : Doings). a.taken) l.passed.tx.did) ∙ life_taken f cs)
    (subst (λ (t : State). AreAtPlaces t.given (doings e.tx l.passed.tx.steps).taken) (sym l.passed.tx.left) here) in
    subst (λ (x : Ends). AreAtPlaces x.tx.given (taken f cs)) same at

start_given : (lcid : ℕ) (kind : PdcpKind) (first : ℕ) (keys : Keys) (side : Side)
    → (begun lcid kind first keys side).tx.given ≡ record { gone = 0; entries = [] }
unfolding begun start
start_given lcid kind first keys side = refl

owing_given : (o : Option (List ℕ)) (s : State) → (owing_report o s).given ≡ s.given
owing_given None s = refl
owing_given (Some report) s = refl

next_given : (e : Ends) (keys : Keys) → (restarted e keys).tx.given ≡ record { gone = 0; entries = [] }
unfolding restarted restarted_sending
next_given e keys = owing_given (report_of e.kind e.rx) (restarted_sending e.tx keys)

am_start : (c : BearerConfig) (keys : Keys) (side : Side)
    → (begun c.channel.lcid (pdcp.Am c.pdcp_bits) c.first keys side).kind ≡ pdcp.Am c.pdcp_bits
unfolding begun
am_start c keys side = refl

first_life : (c : BearerConfig) (keys : Keys) (side : Side) → KeepsPlaces (flow_of kinds.Am c keys side)
first_life c keys side =
    let e : Ends = begun c.channel.lcid (pdcp.Am c.pdcp_bits) c.first keys side in
    let k = begun_kind c.channel.lcid (pdcp.Am c.pdcp_bits) c.first keys side in
    life_places (flow_of kinds.Am c keys side) e (am_begins c keys side) (ap is_am (k.tx ∙ am_start c keys side))
    (start_given c.channel.lcid (pdcp.Am c.pdcp_bits) c.first keys side)

next_life : (c : BearerConfig) (keys : Keys) (side : Side) (xs : List BearerStep) (next : Keys)
    → KeepsPlaces (bearer_goes (run_bearer xs (flow_of kinds.Am c keys side)) (Next next))
next_life c keys side xs next =
    let f = flow_of kinds.Am c keys side in
    let e : Ends = begun c.channel.lcid (pdcp.Am c.pdcp_bits) c.first keys side in
    let h = history f e (xs ++ Next next ∷ []) (am_begins c keys side) in
    let k = lives_kind e h.next (all_doings f (xs ++ Next next ∷ [])) h.passed
    (begun_kind c.channel.lcid (pdcp.Am c.pdcp_bits) c.first keys side) in
    let there = run_more f xs (Next next ∷ []) in
    let before = history f e xs (am_begins c keys side) in
    let z = restarts_as (run_bearer xs f) before.next next before.is in
    let some : Some h.next ≡ Some (restarted z.between next) = sym h.is ∙ ap ends there ∙ z.after in
    let same : h.next ≡ restarted z.between next = cc in
    let kind : h.next.tx.kind ≡ pdcp.Am c.pdcp_bits = k.tx ∙ h.passed.kind ∙ am_start c keys side in
    life_places (bearer_goes (run_bearer xs f) (Next next)) h.next (ap ends (sym there) ∙ h.is) (ap is_am kind)
    (ap (λ (x : Ends). x.tx.given) same ∙ next_given z.between next)

pub in_the_first : (c : BearerConfig) (keys : Keys) (side : Side) → c.kind ≡ kinds.Am
    → KeepsPlaces (flow_of c.kind c keys side)
in_the_first c keys side k =
    subst (λ (kind : Kind). KeepsPlaces (flow_of kind c keys side)) (sym k) (first_life c keys side)

pub in_the_others : (c : BearerConfig) (keys : Keys) (side : Side) (xs : List BearerStep) (next : Keys)
    → c.kind ≡ kinds.Am → KeepsPlaces (bearer_goes (reached c keys side xs) (Next next))
in_the_others c keys side xs next k =
    subst (λ (kind : Kind). KeepsPlaces (bearer_goes (run_bearer xs (flow_of kind c keys side)) (Next next))) (sym k)
    (next_life c keys side xs next)
