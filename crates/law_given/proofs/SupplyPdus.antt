-- The PDUs that RLC is offered in a call of a bearer are those of what the call tells.
use Rattle.std.proofs.Common.{◌≡◌, ℕ, ◌-◌, Bool, true, false, List, [], ◌∷◌}
use Rattle.std.proofs.Common.{◌++◌, map, take, Option, Some, None, option_map, is_some, slice_get, Result}
use Rattle.std.proofs.Common.{refl, ap, sym, ◌∙◌, subst, append_assoc, append-nil}
use Rattle.std.specs.Prelude.{option_to_list}
use Rattle.std.specs.List.{AllByRecursion}
use Rattle.bearer_types.specs.declared.Event.{Event}
use Rattle.bearer_types.specs.declared.Event.TheVariants as events
use Rattle.pdcp_pdu.specs.Kinds.{IsKind}
use Rattle.pdcp_pdu.specs.Pdus.{UserPdu}
use Rattle.pdcp_pdu.specs.declared.PdcpKind.{PdcpKind}
use Rattle.pdcp_pdu.specs.declared.PdcpKind.TheVariants.{Am as AmKind}
use Rattle.pdcp_pdu.specs.declared.PdcpRefusal.{PdcpRefusal}
use Rattle.pdcp_sec.specs.Protection.{Protection}
use Rattle.pdcp_tx.specs.Pdus.{pdu}
use Rattle.pdcp_tx.specs.State.{State as Sending, Offer, offers, owed_offers, again_offer, new_offers, written, taking}
use Rattle.bearer_pdcp.specs.Taking.{report_told, next_told, taking_told}
use Rattle.bearer.specs.Acknowledged.State.{State, Work}
use Rattle.bearer.specs.Acknowledged.Taking.{fed, feeding, data_size}
use Rattle.bearer.specs.Acknowledged.Taking.{data_told, answer_of, taking as am_taking}
use Rattle.bearer.specs.Acknowledged.Timing.{told_of, expiry as am_expiry}
use Rattle.bearer.specs.declared.flow.Flow.TheVariants.{Am}
use Rattle.bearer.specs.Taking.{told as flow_told}
use Rattle.bearer.specs.Hearing.{expiry, ticking}
use Rattle.journal_takes.specs.declared.take.Take.{Take as Takeable}
use Rattle.journal_takes.specs.declared.take.Take.TheVariants.{Report, Pdu}
use Rattle.journal_takes.specs.FlowTakes.{FlowTakes, is_free, next_take, sdu_kept}
use Rattle.journal_takes.specs.Takeable.{offer}
use Rattle.journal_given.specs.Supplies.{Supply, History, account}
use Rattle.law_bearer.specs.AmBearer.Calls.{tells, IsOfData}
use Rattle.law_bearer.specs.AnyBearer.Acknowledged.{offers_in}
use Rattle.law_bearer.specs.AnyBearer.Calls.{Submit, Take, Arrive, Expire, Tick, SetDiscard}
use Rattle.law_bearer.specs.AnyBearer.Stream.{pdu_of}
use Rattle.law_node.proofs.Elsewhere.{HoldsElsewhere, ticking_all}
use Rattle.law_takes.specs.Laws.{IsOffered}
use Rattle.law_takes.proofs.Turns.{offers_are_accounted}
use Rattle.law_given.specs.Supplied.{Progress, IsReadAs, IsOwed, IsSupplied}
use Rattle.law_given.specs.SupplyLaws.{supplied_by, supplied_all, with_offered}
use Rattle.law_given.specs.SupplyPdus.{pdu_if, pdus_in, pdus_told, IsSpelled, OfferedAreTold}
use Rattle.law_given.proofs.Supplied.{Went, owes-none, next-offered}
use Rattle.law_given.proofs.Supplying.{IsQuiet, AreQuiet, fed-sender, SpellsAs, begun, begun-quiet, feeding-holds}
use Rattle.law_given.proofs.Supplying.{Feeds, feeds-on, begun-feeds, data-quiet, expiry-quiet}

-- ---- what events tell of PDUs

pdus-then : (p : Protection) (xs ys : List Event) (s : Supply History)
    → pdus_told p (xs ++ ys) s ≡ pdus_told p xs s ++ pdus_told p ys (supplied_all xs s)
pdus-then p [] ys s = refl
pdus-then p (x ∷ xs) ys s =
    ap (λ (l : List (List ℕ)). pdus_in p x s ++ l) (pdus-then p xs ys (supplied_by x s))
    ∙ sym (append_assoc (pdus_in p x s) (pdus_told p xs (supplied_by x s))
    (pdus_told p ys (supplied_all xs (supplied_by x s))))

-- RLC is given none
abbrev GivesNone : Event → Type 0
GivesNone (events.Take lcid count len) = ⊥
GivesNone (events.Report lcid fms bitmap) = ⊥
GivesNone event = Unit {0}

abbrev GiveNone : List Event → Type 0
GiveNone told = AllByRecursion GivesNone told

one-none : (p : Protection) (event : Event) (s : Supply History) → GivesNone event → pdus_in p event s ≡ []
one-none p (events.Take lcid count len) s h = absurd h
one-none p (events.Report lcid fms bitmap) s h = absurd h
one-none p event s h = refl

told-none : (p : Protection) (told : List Event) (s : Supply History) → GiveNone told → pdus_told p told s ≡ []
told-none p [] s h = refl
told-none p (event ∷ told) s h =
    ap (λ (l : List (List ℕ)). l ++ pdus_told p told (supplied_by event s)) (one-none p event s h.0)
    ∙ told-none p told (supplied_by event s) h.1

more-none : (p : Protection) (xs ys : List Event) (s : Supply History) → GiveNone ys
    → pdus_told p (xs ++ ys) s ≡ pdus_told p xs s
more-none p xs ys s h =
    pdus-then p xs ys s
    ∙ ap (λ (l : List (List ℕ)). pdus_told p xs s ++ l) (told-none p ys (supplied_all xs s) h)
    ∙ append-nil (pdus_told p xs s)

quiet-none : (event : Event) → IsQuiet event → GivesNone event
quiet-none (events.Take lcid count len) q = absurd q
quiet-none (events.Report lcid fms bitmap) q = absurd q
quiet-none event q = tt

none-of : (told : List Event) → AreQuiet told → GiveNone told
none-of [] q = tt
none-of (event ∷ told) q = (quiet-none event q.0, none-of told q.1)

-- ---- RLC takes what is next

-- by what is first to be taken
abbrev Gives : Sending → Supply History → ℕ → Option Offer → Type 0
Gives x s lcid o = pdus_told x.protection (next_told lcid (AmKind s.bits)
    (option_map (λ (y : Offer). written x.kind x.protection y.count y.text) o)) s
    ≡ option_to_list (option_map (pdu_of x) o)

abbrev IsData : Option Takeable → Type 0
IsData None = Unit {0}
IsData (Some Report) = ⊥
IsData (Some (Pdu count)) = Unit {0}

data-gives : (x : Sending) (s : Supply History) (lcid : ℕ) → x.kind ≡ AmKind s.bits → (o : Option Offer)
    (next : Option Takeable) → IsOffered (account s.takes) o next → IsData next → Gives x s lcid o
data-gives x s lcid kind None next i d = refl
data-gives x s lcid kind (Some o) None i d = absurd i
data-gives x s lcid kind (Some o) (Some Report) i d = absurd d
data-gives x s lcid kind (Some o) (Some (Pdu count)) i d =
    let octets : sdu_kept count (account s.takes) ≡ Some o.text = i.1 in
    subst (λ (own : Option ℕ). pdus_told x.protection (next_told lcid (AmKind s.bits)
    (Some (written x.kind x.protection own o.text))) s
    ≡ (written x.kind x.protection own o.text).octets ∷ []) (sym i.0)
    (ap (λ (sdu : Option (List ℕ)). pdu_if s.bits x.protection count sdu ++ []) octets
    ∙ ap (λ (own : PdcpKind). pdu own x.protection count o.text ∷ []) (sym kind))

abbrev of_report : List ℕ → Offer
of_report report = record { count = None; text = report }

report-gives : (x : Sending) (s : Supply History) (lcid : ℕ) (report : List ℕ) → IsSpelled s.bits (Some report)
    → IsReadAs s.bits report s.said → Gives x s lcid (Some (of_report report))
report-gives x s lcid report spelled read =
    subst (λ (r : Result UserPdu PdcpRefusal). pdus_told x.protection (report_told lcid r) s ≡ report ∷ [])
    (sym read.read)
    (ap (λ (own : List ℕ). own ∷ []) (sym (spelled read.fms read.bitmap read.read)))

first-owed : (x : Sending) (report : List ℕ) → x.owed ≡ Some report
    → slice_get (offers x) 0 ≡ Some (of_report report)
unfolding offers
first-owed x report e =
    ap (λ (o : Option (List ℕ)). slice_get (owed_offers o ++ map again_offer x.again
    ++ new_offers x.next (take (x.bound - x.next) x.waiting)) 0) e

next-data : (t : FlowTakes) → t.due ≡ false → IsData (next_take t)
next-data t e = subst (λ (due : Bool). IsData (offer due (is_free t) t.at)) (sym e) (by (is_free t))
  where
    by : (free : Bool) → IsData (offer false free t.at)
    by true = tt
    by false = tt

next-gives : (p : Progress) (x : Sending) (s : Supply History) (lcid : ℕ) → x.kind ≡ AmKind s.bits
    → IsSpelled s.bits x.owed → IsSupplied p x s
    → pdus_told x.protection (next_told lcid (AmKind s.bits) (taking x)) s ≡ next-offered x
unfolding taking
next-gives p x s lcid kind spelled h = by x.owed refl
  where
    by : (owed : Option (List ℕ)) → x.owed ≡ owed → Gives x s lcid (slice_get (offers x) 0)
    by None none =
        let t : FlowTakes = account s.takes in
        let alike = offers_are_accounted x t h.told.accounted in
        data-gives x s lcid kind (slice_get (offers x) 0) (next_take t) alike.first
        (next-data t (sym h.told.accounted.due ∙ ap is_some none))
    by (Some report) owes =
        let owed = subst (λ (o : Option (List ℕ)). IsOwed s.bits s.said h.given o) owes h.owed in
        subst (λ (o : Option Offer). Gives x s lcid o) (sym (first-owed x report owes))
        (report-gives x s lcid report (subst (λ (o : Option (List ℕ)). IsSpelled s.bits o) owes spelled) owed.1)

fed-gives : (p : Progress) (w : Work) (s : Supply History) → w.pdcp.kind ≡ AmKind s.bits
    → w.pdcp.tx.kind ≡ AmKind s.bits → IsSpelled s.bits w.pdcp.tx.owed → Went p w.pdcp.tx w.events s
    → pdus_told w.pdcp.tx.protection (fed w).events s
    ≡ pdus_told w.pdcp.tx.protection w.events s ++ next-offered w.pdcp.tx
unfolding taking_told
fed-gives p w s kind k spelled h =
    let x = w.pdcp.tx in
    let now : Supply History = supplied_all w.events s in
    let same : AmKind s.bits ≡ AmKind now.bits = ap AmKind (sym h.bits) in
    pdus-then x.protection w.events (next_told w.pdcp.lcid w.pdcp.kind (taking x)) s
    ∙ ap (λ (l : List (List ℕ)). pdus_told x.protection w.events s ++ l)
    (subst (λ (own : PdcpKind). pdus_told x.protection (next_told w.pdcp.lcid own (taking x)) now ≡ next-offered x)
    (sym (kind ∙ same))
    (next-gives p x now w.pdcp.lcid (k ∙ same) (subst (λ (n : ℕ). IsSpelled n x.owed) (sym h.bits) spelled)
    h.supplied))

-- nothing is owed behind it
none-spelled : (w : Work) (bits : ℕ) → IsSpelled bits (fed w).pdcp.tx.owed
none-spelled w bits =
    subst (λ (o : Option (List ℕ)). IsSpelled bits o)
    (sym (ap (λ (x : Sending). x.owed) (fed-sender w) ∙ owes-none w.pdcp.tx)) tt

-- and the PDUs that RLC was given so far are those of what is told
record Tells (p : Progress) (x : Sending) (s : Supply History) (w : Work) (l : List (List ℕ)) : Type 0 where
  feeds : Feeds p s w l
  spelled : IsSpelled s.bits w.pdcp.tx.owed
  pdus : pdus_told x.protection w.events s ≡ l

tells-on : (p : Progress) (x : Sending) (s : Supply History) (w : Work) (l : List (List ℕ)) → IsKind (AmKind s.bits)
    → x.kind ≡ AmKind s.bits → SpellsAs w.pdcp.tx x → Tells p x s w l
    → Tells p x s (fed w) (l ++ next-offered w.pdcp.tx)
tells-on p x s w l bits k same h = record {
  feeds = feeds-on p s x w l bits k same h.feeds;
  spelled = none-spelled w s.bits;
  pdus =
      subst
      (λ (own : Protection). pdus_told own (fed w).events s ≡ pdus_told own w.events s ++ next-offered w.pdcp.tx)
      same.protection (fed-gives (with_offered l p) w s h.feeds.kind (same.kind ∙ k) h.spelled h.feeds.went)
      ∙ ap (λ (told : List (List ℕ)). told ++ next-offered w.pdcp.tx) h.pdus;
}

writes-give : (p : Progress) (b : State) (share : ℕ) (held : Option ℕ) (s : Supply History) → IsKind (AmKind s.bits)
    → IsOfData s.bits b → IsSpelled s.bits b.pdcp.tx.owed → IsSupplied p b.pdcp.tx s
    → pdus_told b.pdcp.tx.protection (am_taking b share held) s ≡ offers_in b share held
unfolding am_taking
writes-give p b share held s bits k spelled h =
    let x = b.pdcp.tx in
    let v = feeding b share held in
    let ends = answer_of v (data_size b share) held in
    let f = feeding-holds (Tells p x s) b share held (λ w l. tells-on p x s w l bits k.sending) (record {
      feeds = begun-feeds p b share s k h;
      spelled = spelled;
      pdus = told-none x.protection (begun b share).events s (none-of (begun b share).events (begun-quiet b share));
    }) in
    more-none x.protection v.events (data_told v.pdcp.lcid ends) s
    (none-of (data_told v.pdcp.lcid ends) (data-quiet v.pdcp.lcid ends)) ∙ f.pdus

-- ---- a TTI begins

-- neither a timer nor an SDU that is late gives RLC any
none-given : HoldsElsewhere GivesNone (λ lcid. Unit {0})
none-given = record {
  starts = λ lcid clock. tt;
  stops = λ lcid clock. tt;
  expires = λ lcid clock. tt;
  ups = λ lcid sdu o. tt;
  fails = λ lcid sn. tt;
  drops = λ lcid why other. tt;
  integrity = λ lcid found wanted. tt;
  bad_rlc = λ lcid fault. tt;
  bad_pdcp = λ lcid fault. tt;
  discards = λ lcid len. tt;
}

-- ---- any call

pub offered_are_told : OfferedAreTold
unfolding flow_told expiry ticking
offered_are_told p b d (Submit sdu) s w bits k spelled e h = refl
offered_are_told p b d (Take share held) s w bits k spelled e h = sym (writes-give p b share held s bits k spelled h)
offered_are_told p b d (Arrive pdu) s w bits k spelled e h = absurd w
offered_are_told p b d (Expire clock) s w bits k spelled e h =
    let told = told_of (am_expiry b clock) in
    sym (told-none b.pdcp.tx.protection told s (none-of told (expiry-quiet clock b)))
offered_are_told p b d Tick s w bits k spelled e h =
    sym (told-none b.pdcp.tx.protection (tells b Tick) s (ticking_all none-given (Am b) tt))
offered_are_told p b d (SetDiscard ttis) s w bits k spelled e h = refl
