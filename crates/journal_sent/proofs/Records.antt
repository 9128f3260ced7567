-- What is kept of a journal does, at each record, what its history does.
use Rattle.std.proofs.Common.{◌≡◌, ℕ, zero, suc, Bool, true, false, List, [], ◌∷◌, Option, Some, None}
use Rattle.std.proofs.Common.{slice_set, slice_index_or, refl, ap, sym, ◌∙◌, subst}
use Rattle.std.specs.Prelude.{option_map, is_some}
use Rattle.l2_types.specs.declared.event.How.{How}
use Rattle.l2_types.specs.declared.side.Side.{Side}
use Rattle.l2_types.specs.declared.side.Side.TheVariants.{Nb, Ue}
use Rattle.mac_pdu.specs.declared.builder.Sdu.{Sdu}
use Rattle.mac_pdu.specs.declared.item.Direction.{Direction}
use Rattle.mac_pdu.specs.Reading.{reading}
use Rattle.bearer_types.specs.declared.event.Event.{Event}
use Rattle.bearer_types.specs.declared.event.Event.TheVariants as events
use Rattle.bearer_types.specs.Sides.{sender_of}
use Rattle.air_record.specs.declared.record.Record.{Record}
use Rattle.air_record.specs.declared.record.Record.TheVariants as records
use Rattle.journal_lives.specs.FlowLives.{FlowLives}
use Rattle.journal_stream.specs.SentOctets.{SentOctets}
use Rattle.journal_flows.specs.declared.account.Account.{Account}
use Rattle.journal_flows.specs.NumberedPdus.{AnyEvent}
use Rattle.journal_flows.specs.Gathering.{sdus_read}
use Rattle.journal_flows.specs.Accounts.{Accounts, slot_with, acked_in, channels_of, slot_at, channel_with}
use Rattle.journal_flows.specs.Accounts.{account_with}
use Rattle.journal_given.specs.Supplies as given
use Rattle.journal_given.specs.Giving.{Giving, bearer_at, settled as settled_given, after_record as after_given}
use Rattle.journal_given.proofs.Images.{giving_image, slot_image, at_image}
use Rattle.journal_sent.specs.declared.checker.NamedPdu.{NamedPdu}
use Rattle.air_record.specs.declared.submission.Submission.{Submission}
use Rattle.air_record.specs.Submissions.{unrefused}
use Rattle.journal_sent.specs.declared.checker.PassedSdu.{PassedSdu}
use Rattle.journal_sent.specs.declared.verdict.Verdict.{Verdict}
use Rattle.journal_sent.specs.SentPdus.{histories, accounts}
use Rattle.journal_sent.specs.SentFlows.{SentFlow, flow_submitted, discard_right, flow_discarded}
use Rattle.journal_sent.specs.SentFlows.{take_right, flow_taken, flow_reported, flow_judges}
use Rattle.journal_sent.specs.Sending.{Flows, flow_at, Sending, flows_of, with_flows, changed, judged}
use Rattle.journal_sent.specs.Sending.{has_bearer, is_known, lcid_in, sdu_in, sdu_of, right_in, passed_as, passed_in}
use Rattle.journal_sent.specs.Sending.{take_told, gives_reports, named_of, with_named, names, event_told}
use Rattle.journal_sent.specs.Sending.{with_verdict, pdu_told_by, acked_at, pdu_told, pdus_told, block_told}
use Rattle.journal_sent.specs.Sending.{submits_own, released, settled, tells, record_told, after_record}
use Rattle.journal_sent.proofs.Grows.{IsLiving, slot_grows, Keeps, record_keep}
use Rattle.journal_sent.proofs.KeptStreams.{Events}
use Rattle.journal_sent.proofs.KeptFlows.{IsAlike, submitted_alike, discarded_alike, discard_same, taken_alike}
use Rattle.journal_sent.proofs.KeptFlows.{take_same, passed_same, reported_alike, data_same, judged_alike}
use Rattle.journal_sent.proofs.KeptFlows.{account_alike}

-- ---- the flows of a side, beside the accounts that are kept of them

abbrev pub SlotAlike : Option Account → Option (SentFlow Events) → Option (SentFlow SentOctets) → Type 0
SlotAlike slot None None = Unit {0}
SlotAlike slot None (Some g) = ⊥
SlotAlike slot (Some f) None = ⊥
SlotAlike slot (Some f) (Some g) = IsAlike (acked_in slot) f g

abbrev pub AllAlike : List (Option Account) → Flows Events → Flows SentOctets → Type 0
AllAlike [] [] [] = Unit {0}
AllAlike (slot ∷ slots) (x ∷ xs) (y ∷ ys) = SlotAlike slot x y × AllAlike slots xs ys
AllAlike slots xs ys = ⊥

pub at_alike : (lcid : ℕ) (slots : List (Option Account)) (xs : Flows Events) (ys : Flows SentOctets)
    → AllAlike slots xs ys → SlotAlike (slice_index_or slots lcid None) (flow_at lcid xs) (flow_at lcid ys)
at_alike lcid [] [] [] h = tt
at_alike zero (slot ∷ slots) (x ∷ xs) (y ∷ ys) h = h.0
at_alike (suc lcid) (slot ∷ slots) (x ∷ xs) (y ∷ ys) h = at_alike lcid slots xs ys h.1
at_alike lcid slots xs ys h = absurd h

pub set_alike : (lcid : ℕ) (slot : Option Account) (x : Option (SentFlow Events)) (y : Option (SentFlow SentOctets))
    (slots : List (Option Account)) (xs : Flows Events) (ys : Flows SentOctets) → SlotAlike slot x y
    → AllAlike slots xs ys → AllAlike (slice_set slots lcid slot) (slice_set xs lcid x) (slice_set ys lcid y)
set_alike lcid slot x y [] [] [] s h = tt
set_alike zero slot x y (slot' ∷ slots) (x' ∷ xs) (y' ∷ ys) s h = (s, h.1)
set_alike (suc lcid) slot x y (slot' ∷ slots) (x' ∷ xs) (y' ∷ ys) s h =
    (h.0, set_alike lcid slot x y slots xs ys s h.1)
set_alike lcid slot x y slots xs ys s h = absurd h

flow_set_alike : (lcid : ℕ) (x : Option (SentFlow Events)) (y : Option (SentFlow SentOctets))
    (slots : List (Option Account)) (xs : Flows Events) (ys : Flows SentOctets)
    → SlotAlike (slice_index_or slots lcid None) x y → AllAlike slots xs ys
    → AllAlike slots (slice_set xs lcid x) (slice_set ys lcid y)
flow_set_alike lcid x y [] [] [] s h = tt
flow_set_alike zero x y (slot ∷ slots) (x' ∷ xs) (y' ∷ ys) s h = (s, h.1)
flow_set_alike (suc lcid) x y (slot ∷ slots) (x' ∷ xs) (y' ∷ ys) s h =
    (h.0, flow_set_alike lcid x y slots xs ys s h.1)
flow_set_alike lcid x y slots xs ys s h = absurd h

slot_goes_on : (e : AnyEvent) → IsLiving e → (slot : Option Account) (x : Option (SentFlow Events))
    (y : Option (SentFlow SentOctets)) → SlotAlike slot x y → SlotAlike (slot_with e slot) x y
slot_goes_on e living slot None None h = tt
slot_goes_on e living slot None (Some g) h = absurd h
slot_goes_on e living slot (Some f) None h = absurd h
slot_goes_on e living slot (Some f) (Some g) h =
    account_alike (acked_in slot) (acked_in (slot_with e slot)) (slot_grows e living slot) f g h

channels_go_on : (lcid : ℕ) (e : AnyEvent) → IsLiving e → (slots : List (Option Account)) (xs : Flows Events)
    (ys : Flows SentOctets) → AllAlike slots xs ys → AllAlike (channel_with lcid e slots) xs ys
channels_go_on lcid e living [] [] [] h = tt
channels_go_on zero e living (slot ∷ slots) (x ∷ xs) (y ∷ ys) h = (slot_goes_on e living slot x y h.0, h.1)
channels_go_on (suc lcid) e living (slot ∷ slots) (x ∷ xs) (y ∷ ys) h =
    (h.0, channels_go_on lcid e living slots xs ys h.1)
channels_go_on lcid e living slots xs ys h = absurd h

-- ---- both sides

abbrev pub dressed : Flows SentOctets → Flows SentOctets → Sending Events → Sending SentOctets
dressed nb ue s = record {
  nb = nb;
  ue = ue;
  named_nb = s.named_nb;
  named_ue = s.named_ue;
  passed = s.passed;
  submitted = s.submitted;
  keys = s.keys;
  renewal = s.renewal;
  sent = s.sent;
  shaped = s.shaped;
}

pub record AreAlike (a : Accounts) (s : Sending Events) (t : Sending SentOctets) : Type 0 where
  pub nb : Flows SentOctets
  pub ue : Flows SentOctets
  pub is : t ≡ dressed nb ue s
  pub nb_alike : AllAlike a.nb s.nb nb
  pub ue_alike : AllAlike a.ue s.ue ue

told_goes_on : (s : Sending Events) (nb ue : Flows SentOctets)
    → Keeps (λ (a : Accounts). AllAlike a.nb s.nb nb × AllAlike a.ue s.ue ue)
told_goes_on s nb ue t living a h = by t.side
  where
    by : (side : Side) → AllAlike (account_with side t.lcid t.event a).nb s.nb nb
        × AllAlike (account_with side t.lcid t.event a).ue s.ue ue
    by Nb = (channels_go_on t.lcid t.event living a.nb s.nb nb h.0, h.1)
    by Ue = (h.0, channels_go_on t.lcid t.event living a.ue s.ue ue h.1)

-- the accounts of flows go on with a record
pub goes_on : (one : Record) (g : Giving given.History) (s : Sending Events) (t : Sending SentOctets)
    → AreAlike g.kept.journal.flows s t → AreAlike (after_given given.histories one g).kept.journal.flows s t
goes_on one g s t h =
    let both = record_keep (λ (a : Accounts). AllAlike a.nb s.nb h.nb × AllAlike a.ue s.ue h.ue)
    (told_goes_on s h.nb h.ue) one g (h.nb_alike, h.ue_alike) in
    record { nb = h.nb; ue = h.ue; is = h.is; nb_alike = both.0; ue_alike = both.1 }

-- ---- a step of both

pub stepped : (a after : Accounts) (step : Sending SentOctets → Sending SentOctets) (s told : Sending Events)
    → ((nb ue : Flows SentOctets) → AllAlike a.nb s.nb nb → AllAlike a.ue s.ue ue
    → AreAlike after told (step (dressed nb ue s)))
    → (t : Sending SentOctets) → AreAlike a s t → AreAlike after told (step t)
stepped a after step s told does t h = subst (λ (x : Sending SentOctets). AreAlike after told (step x)) (sym h.is)
    (does h.nb h.ue h.nb_alike h.ue_alike)

-- a step that looks at no flow
pub plain_step : (a : Accounts) (step : Sending SentOctets → Sending SentOctets) (s told : Sending Events)
    → told.nb ≡ s.nb → told.ue ≡ s.ue → ((nb ue : Flows SentOctets) → step (dressed nb ue s) ≡ dressed nb ue told)
    → (t : Sending SentOctets) → AreAlike a s t → AreAlike a told (step t)
plain_step a step s told nb_is ue_is same t h = record {
  nb = h.nb;
  ue = h.ue;
  is = ap step h.is ∙ same h.nb h.ue;
  nb_alike = subst (λ (xs : Flows Events). AllAlike a.nb xs h.nb) (sym nb_is) h.nb_alike;
  ue_alike = subst (λ (xs : Flows Events). AllAlike a.ue xs h.ue) (sym ue_is) h.ue_alike;
}

pub flows_alike : (a : Accounts) (side : Side) (s : Sending Events) (t : Sending SentOctets) → AreAlike a s t
    → AllAlike (channels_of side a) (flows_of side s) (flows_of side t)
flows_alike a side s t h = subst (λ (x : Sending SentOctets). AllAlike (channels_of side a) (flows_of side s)
    (flows_of side x)) (sym h.is) (by side)
  where
    by : (from : Side) → AllAlike (channels_of from a) (flows_of from s) (flows_of from (dressed h.nb h.ue s))
    by Nb = h.nb_alike
    by Ue = h.ue_alike

pub flow_alike : (a : Accounts) (side : Side) (lcid : ℕ) (s : Sending Events) (t : Sending SentOctets)
    → AreAlike a s t → SlotAlike (slot_at side lcid a) (flow_at lcid (flows_of side s)) (flow_at lcid (flows_of side t))
flow_alike a side lcid s t h =
    at_alike lcid (channels_of side a) (flows_of side s) (flows_of side t) (flows_alike a side s t h)

-- one flow becomes another
abbrev pub put_on : {T : Type 0} → Side → ℕ → Option (SentFlow T) → Sending T → Sending T
put_on side lcid f s = with_flows side (slice_set (flows_of side s) lcid f) s

put_at : (a : Accounts) (side : Side) (lcid : ℕ) (x : Option (SentFlow Events)) (y : Option (SentFlow SentOctets))
    (s : Sending Events) → SlotAlike (slot_at side lcid a) x y → (nb ue : Flows SentOctets)
    → AllAlike a.nb s.nb nb → AllAlike a.ue s.ue ue
    → AreAlike a (put_on side lcid x s) (put_on side lcid y (dressed nb ue s))
put_at a Nb lcid x y s slot nb ue h k = record {
  nb = slice_set nb lcid y;
  ue = ue;
  is = refl;
  nb_alike = flow_set_alike lcid x y a.nb s.nb nb slot h;
  ue_alike = k;
}
put_at a Ue lcid x y s slot nb ue h k = record {
  nb = nb;
  ue = slice_set ue lcid y;
  is = refl;
  nb_alike = h;
  ue_alike = flow_set_alike lcid x y a.ue s.ue ue slot k;
}

pub put_alike : (a : Accounts) (side : Side) (lcid : ℕ) (x : Option (SentFlow Events))
    (y : Option (SentFlow SentOctets)) (s : Sending Events) (t : Sending SentOctets)
    → SlotAlike (slot_at side lcid a) x y → AreAlike a s t → AreAlike a (put_on side lcid x s) (put_on side lcid y t)
put_alike a side lcid x y s t slot h =
    stepped a a (put_on side lcid y) s (put_on side lcid x s) (put_at a side lcid x y s slot) t h

abbrev pub StepsAlike : (SentFlow Events → SentFlow Events) → (SentFlow SentOctets → SentFlow SentOctets) → Type 0
StepsAlike step does = (account : Option FlowLives) (f : SentFlow Events) (g : SentFlow SentOctets)
    → IsAlike account f g → IsAlike account (step f) (does g)

slot_step : (step : SentFlow Events → SentFlow Events) (does : SentFlow SentOctets → SentFlow SentOctets)
    → StepsAlike step does → (slot : Option Account) (x : Option (SentFlow Events)) (y : Option (SentFlow SentOctets))
    → SlotAlike slot x y → SlotAlike slot (option_map step x) (option_map does y)
slot_step step does same slot None None h = tt
slot_step step does same slot None (Some g) h = absurd h
slot_step step does same slot (Some f) None h = absurd h
slot_step step does same slot (Some f) (Some g) h = same (acked_in slot) f g h

pub changed_alike : (a : Accounts) (side : Side) (lcid : ℕ) (step : SentFlow Events → SentFlow Events)
    (does : SentFlow SentOctets → SentFlow SentOctets) → StepsAlike step does
    → (s : Sending Events) (t : Sending SentOctets) → AreAlike a s t
    → AreAlike a (changed side lcid step s) (changed side lcid does t)
changed_alike a side lcid step does same s t h =
    put_alike a side lcid (option_map step (flow_at lcid (flows_of side s)))
    (option_map does (flow_at lcid (flows_of side t))) s t
    (slot_step step does same (slot_at side lcid a) (flow_at lcid (flows_of side s)) (flow_at lcid (flows_of side t))
    (flow_alike a side lcid s t h)) h

judged_both : (a : Accounts) (b c : Bool) (s : Sending Events) (t : Sending SentOctets) → c ≡ b → AreAlike a s t
    → AreAlike a (judged b s) (judged c t)
judged_both a b c s t same h = plain_step a (judged c) s (judged b s) refl refl
    (λ nb ue. ap (λ (x : Bool). judged x (dressed nb ue s)) same) t h

-- ---- what is asked of a flow

abbrev TestsAlike : (SentFlow Events → Bool) → (SentFlow SentOctets → Bool) → Type 0
TestsAlike test asks = (account : Option FlowLives) (f : SentFlow Events) (g : SentFlow SentOctets)
    → IsAlike account f g → asks g ≡ test f

right_same : (test : SentFlow Events → Bool) (asks : SentFlow SentOctets → Bool) → TestsAlike test asks
    → (slot : Option Account) (x : Option (SentFlow Events)) (y : Option (SentFlow SentOctets)) → SlotAlike slot x y
    → right_in asks y ≡ right_in test x
right_same test asks same slot None None h = refl
right_same test asks same slot None (Some g) h = absurd h
right_same test asks same slot (Some f) None h = absurd h
right_same test asks same slot (Some f) (Some g) h = same (acked_in slot) f g h

some_same : (slot : Option Account) (x : Option (SentFlow Events)) (y : Option (SentFlow SentOctets))
    → SlotAlike slot x y → is_some y ≡ is_some x
some_same slot None None h = refl
some_same slot None (Some g) h = absurd h
some_same slot (Some f) None h = absurd h
some_same slot (Some f) (Some g) h = refl

reports_same : (slot : Option Account) (x : Option (SentFlow Events)) (y : Option (SentFlow SentOctets))
    → SlotAlike slot x y → gives_reports y ≡ gives_reports x
reports_same slot None None h = refl
reports_same slot None (Some g) h = absurd h
reports_same slot (Some f) None h = absurd h
reports_same slot (Some f) (Some g) h = data_same (acked_in slot) f g h

passed_in_same : (side : Side) (lcid : ℕ) (slot : Option Account) (x : Option (SentFlow Events))
    (y : Option (SentFlow SentOctets)) → SlotAlike slot x y → passed_in side lcid y ≡ passed_in side lcid x
passed_in_same side lcid slot None None h = refl
passed_in_same side lcid slot None (Some g) h = absurd h
passed_in_same side lcid slot (Some f) None h = absurd h
passed_in_same side lcid slot (Some f) (Some g) h = ap (passed_as side lcid) (passed_same (acked_in slot) f g h)

bearer_same : (a : Accounts) (lcid : ℕ) (s : Sending Events) (t : Sending SentOctets) → AreAlike a s t
    → has_bearer lcid t ≡ has_bearer lcid s
bearer_same a lcid s t h = some_same (slot_at Nb lcid a) (flow_at lcid s.nb) (flow_at lcid t.nb)
    (flow_alike a Nb lcid s t h)

known_same : (a : Accounts) (lcid : Option ℕ) (s : Sending Events) (t : Sending SentOctets) → AreAlike a s t
    → is_known lcid t ≡ is_known lcid s
known_same a None s t h = refl
known_same a (Some lcid) s t h = bearer_same a lcid s t h

-- ---- an event

sdu_in_same : (side : Side) (count : ℕ) (o : Option (given.Bearer given.History))
    → sdu_in given.accounts side count (slot_image o) ≡ sdu_in given.histories side count o
sdu_in_same side count None = refl
sdu_in_same Nb count (Some b) = refl
sdu_in_same Ue count (Some b) = refl

sdu_same : (side : Side) (lcid : ℕ) (count : Option ℕ) (g : Giving given.History)
    → sdu_of given.accounts side lcid count (giving_image g) ≡ sdu_of given.histories side lcid count g
sdu_same side lcid None g = refl
sdu_same side lcid (Some count) g = ap (sdu_in given.accounts side count) (at_image lcid g.bearers)
    ∙ sdu_in_same side count (bearer_at lcid g.bearers)

abbrev with_passed : {T : Type 0} → Option PassedSdu → Sending T → Sending T
with_passed p s = record s { passed = p }

passed_both : (a : Accounts) (p q : Option PassedSdu) (s : Sending Events) (t : Sending SentOctets) → q ≡ p
    → AreAlike a s t → AreAlike a (with_passed p s) (with_passed q t)
passed_both a p q s t same h = plain_step a (with_passed q) s (with_passed p s) refl refl
    (λ nb ue. ap (λ (x : Option PassedSdu). with_passed x (dressed nb ue s)) same) t h

take_both : (a : Accounts) (side : Side) (lcid : ℕ) (count : Option ℕ) (len : ℕ) (sdu : Option (List ℕ))
    (s : Sending Events) (t : Sending SentOctets) → AreAlike a s t
    → AreAlike a (take_told histories side lcid count len sdu s) (take_told accounts side lcid count len sdu t)
take_both a side lcid count len sdu s t h =
    let slot = slot_at side lcid a in
    let x = flow_at lcid (flows_of side s) in
    let y = flow_at lcid (flows_of side t) in
    let flow = flow_alike a side lcid s t h in
    let after = changed side lcid (flow_taken histories count len sdu) s in
    let own = changed side lcid (flow_taken accounts count len sdu) t in
    passed_both a (passed_in side lcid x) (passed_in side lcid y) (judged (right_in (take_right count len sdu) x) after)
    (judged (right_in (take_right count len sdu) y) own) (passed_in_same side lcid slot x y flow)
    (judged_both a (right_in (take_right count len sdu) x) (right_in (take_right count len sdu) y) after own
    (right_same (take_right count len sdu) (take_right count len sdu) (λ account. take_same account count len sdu)
    slot x y flow)
    (changed_alike a side lcid (flow_taken histories count len sdu) (flow_taken accounts count len sdu)
    (λ account. taken_alike account count len sdu) s t h))

names_both : (a : Accounts) (side : Side) (lcid : ℕ) (how : How) (p : Option PassedSdu) (s : Sending Events)
    (t : Sending SentOctets) → AreAlike a s t → AreAlike a (names side lcid how p s) (names side lcid how p t)
names_both a Nb lcid how p s t h =
    plain_step a (names Nb lcid how p) s (names Nb lcid how p s) refl refl (λ nb ue. refl) t h
names_both a Ue lcid how p s t h =
    plain_step a (names Ue lcid how p) s (names Ue lcid how p s) refl refl (λ nb ue. refl) t h

event_both : (a : Accounts) (side : Side) (event : Event) (g : Giving given.History) (p : Option PassedSdu)
    (s : Sending Events) (t : Sending SentOctets) → AreAlike a s t
    → AreAlike a (event_told histories given.histories side event g p s)
    (event_told accounts given.accounts side event (giving_image g) p t)
event_both a side (events.Take lcid count len) g p s t h =
    subst (λ (sdu : Option (List ℕ)). AreAlike a
    (take_told histories side lcid count len (sdu_of given.histories side lcid count g) s)
    (take_told accounts side lcid count len sdu t)) (sym (sdu_same side lcid count g))
    (take_both a side lcid count len (sdu_of given.histories side lcid count g) s t h)
event_both a side (events.Report lcid fms bitmap) g p s t h =
    let x = flow_at lcid (flows_of side s) in
    let y = flow_at lcid (flows_of side t) in
    judged_both a (gives_reports x) (gives_reports y) (changed side lcid (flow_reported histories fms bitmap) s)
    (changed side lcid (flow_reported accounts fms bitmap) t)
    (reports_same (slot_at side lcid a) x y (flow_alike a side lcid s t h))
    (changed_alike a side lcid (flow_reported histories fms bitmap) (flow_reported accounts fms bitmap)
    (λ account. reported_alike account fms bitmap) s t h)
event_both a side (events.Discard lcid len) g p s t h =
    let x = flow_at lcid (flows_of side s) in
    let y = flow_at lcid (flows_of side t) in
    judged_both a (right_in discard_right x) (right_in discard_right y) (changed side lcid flow_discarded s)
    (changed side lcid flow_discarded t)
    (right_same discard_right discard_right discard_same (slot_at side lcid a) x y (flow_alike a side lcid s t h))
    (changed_alike a side lcid flow_discarded flow_discarded discarded_alike s t h)
event_both a side (events.Send lcid how sn) g p s t h = names_both a side lcid how p s t h
event_both a side event g p s t h = h

-- ---- a new block

verdict_both : (a : Accounts) (v w : Verdict) (s : Sending Events) (t : Sending SentOctets) → w ≡ v → AreAlike a s t
    → AreAlike a (with_verdict v s) (with_verdict w t)
verdict_both a v w s t same h = plain_step a (with_verdict w) s (with_verdict v s) refl refl
    (λ nb ue. ap (λ (x : Verdict). with_verdict x (dressed nb ue s)) same) t h

pdu_by_both : (a : Accounts) (side : Side) (acked : ℕ → Bool) (n : NamedPdu) (d : Sdu) (x : Option (SentFlow Events))
    (y : Option (SentFlow SentOctets)) (s : Sending Events) (t : Sending SentOctets)
    → SlotAlike (slot_at side d.lcid a) x y → AreAlike a s t
    → AreAlike a (pdu_told_by histories side acked n d x s) (pdu_told_by accounts side acked n d y t)
pdu_by_both a side acked n d None None s t slot h = h
pdu_by_both a side acked n d None (Some g) s t slot h = absurd slot
pdu_by_both a side acked n d (Some f) None s t slot h = absurd slot
pdu_by_both a side acked n d (Some f) (Some g) s t slot h =
    let both = judged_alike (acked_in (slot_at side d.lcid a)) acked n.how n.sdu d.octets f g slot in
    let own = flow_judges histories acked n.how n.sdu d.octets f in
    let same = flow_judges accounts acked n.how n.sdu d.octets g in
    verdict_both a own.verdict same.verdict (put_on side d.lcid (Some own.flow) s)
    (put_on side d.lcid (Some same.flow) t) both.verdict
    (put_alike a side d.lcid (Some own.flow) (Some same.flow) s t both.flow h)

pub pdu_both : (a : Accounts) (side : Side) (g : Giving given.History) (n : NamedPdu) (d : Sdu) (s : Sending Events)
    (t : Sending SentOctets) → AreAlike a s t
    → AreAlike a (pdu_told histories side g n d s) (pdu_told accounts side (giving_image g) n d t)
pdu_both a side g n d s t h = pdu_by_both a side (acked_at side d.lcid g) n d (flow_at d.lcid (flows_of side s))
    (flow_at d.lcid (flows_of side t)) s t (flow_alike a side d.lcid s t h) h

pdus_both : (a : Accounts) (side : Side) (g : Giving given.History) (named : List NamedPdu) (sdus : List Sdu)
    (s : Sending Events) (t : Sending SentOctets) → AreAlike a s t
    → AreAlike a (pdus_told histories side g named sdus s) (pdus_told accounts side (giving_image g) named sdus t)
pdus_both a side g [] sdus s t h = h
pdus_both a side g (n ∷ named) [] s t h = h
pdus_both a side g (n ∷ named) (d ∷ sdus) s t h =
    pdus_both a side g named sdus (pdu_told histories side g n d s) (pdu_told accounts side (giving_image g) n d t)
    (pdu_both a side g n d s t h)

named_same : (a : Accounts) (side : Side) (s : Sending Events) (t : Sending SentOctets) → AreAlike a s t
    → named_of side t ≡ named_of side s
named_same a side s t h = ap (λ (x : Sending SentOctets). named_of side x) h.is ∙ by side
  where
    by : (from : Side) → named_of from (dressed h.nb h.ue s) ≡ named_of from s
    by Nb = refl
    by Ue = refl

pub emptied_both : (a : Accounts) (side : Side) (s : Sending Events) (t : Sending SentOctets) → AreAlike a s t
    → AreAlike a (with_named side [] s) (with_named side [] t)
emptied_both a Nb s t h = plain_step a (with_named Nb []) s (with_named Nb [] s) refl refl (λ nb ue. refl) t h
emptied_both a Ue s t h = plain_step a (with_named Ue []) s (with_named Ue [] s) refl refl (λ nb ue. refl) t h

block_both : (a : Accounts) (direction : Direction) (octets : List ℕ) (g : Giving given.History) (s : Sending Events)
    (t : Sending SentOctets) → AreAlike a s t
    → AreAlike a (block_told histories direction octets g s) (block_told accounts direction octets (giving_image g) t)
block_both a direction octets g s t h =
    subst (λ (named : List NamedPdu). AreAlike a (block_told histories direction octets g s)
    (pdus_told accounts (sender_of direction) (giving_image g) named (sdus_read (reading direction octets))
    (with_named (sender_of direction) [] t))) (sym (named_same a (sender_of direction) s t h))
    (pdus_both a (sender_of direction) g (named_of (sender_of direction) s) (sdus_read (reading direction octets))
    (with_named (sender_of direction) [] s) (with_named (sender_of direction) [] t)
    (emptied_both a (sender_of direction) s t h))

-- ---- a record

abbrev with_submitted : {T : Type 0} → Option Submission → Sending T → Sending T
with_submitted d s = record s { submitted = d }

none_submitted : (a : Accounts) (s : Sending Events) (t : Sending SentOctets) → AreAlike a s t
    → AreAlike a (with_submitted None s) (with_submitted None t)
none_submitted a s t h =
    plain_step a (with_submitted None) s (with_submitted None s) refl refl (λ nb ue. refl) t h

own_both : (a : Accounts) (o : Option Submission) (s : Sending Events) (t : Sending SentOctets) → AreAlike a s t
    → AreAlike a (submits_own o s) (submits_own o t)
own_both a None s t h = h
own_both a (Some d) s t h = changed_alike a d.side d.lcid (flow_submitted d.octets) (flow_submitted d.octets)
    (λ account. submitted_alike account d.octets) s t h

released_both : (a : Accounts) (o : Option Submission) (s : Sending Events) (t : Sending SentOctets)
    → AreAlike a s t → AreAlike a (released o s) (released o t)
released_both a o s t h =
    own_both a o (with_submitted None s) (with_submitted None t) (none_submitted a s t h)

-- what is left of the SDU of the group's line
pub left_both : (left : Option Submission → Option Submission) (a : Accounts) (s : Sending Events)
    (t : Sending SentOctets) → AreAlike a s t
    → AreAlike a (released (left s.submitted) s) (released (left t.submitted) t)
left_both left a s t h =
    subst (λ (o : Option Submission). AreAlike a (released (left s.submitted) s) (released (left o) t))
    (sym (ap (λ (x : Sending SentOctets). x.submitted) h.is)) (released_both a (left s.submitted) s t h)

pub settled_both : (a : Accounts) (one : Record) (s : Sending Events) (t : Sending SentOctets) → AreAlike a s t
    → AreAlike a (settled one s) (settled one t)
settled_both a one s t h = left_both (unrefused one) a s t h

told_record : (a : Accounts) (one : Record) (g : Giving given.History) (p : Option PassedSdu) (s : Sending Events)
    (t : Sending SentOctets) → AreAlike a s t
    → AreAlike a (tells histories given.histories one g p s)
    (tells accounts given.accounts one (giving_image g) p t)
told_record a (records.Of side event) g p s t h =
    event_both a side event g p (judged (is_known (lcid_in event) s) s) (judged (is_known (lcid_in event) t) t)
    (judged_both a (is_known (lcid_in event) s) (is_known (lcid_in event) t) s t (known_same a (lcid_in event) s t h) h)
told_record a (records.Block direction process true version octets) g p s t h =
    block_both a direction octets g s t h
told_record a (records.Block direction process false version octets) g p s t h = h
told_record a (records.Looped lcid octets) g p s t h =
    changed_alike a Ue lcid (flow_submitted octets) (flow_submitted octets) (λ account. submitted_alike account octets)
    (judged (has_bearer lcid s) s) (judged (has_bearer lcid t) t)
    (judged_both a (has_bearer lcid s) (has_bearer lcid t) s t (bearer_same a lcid s t h) h)
told_record a (records.Refused side lcid why) g p s t h =
    judged_both a (has_bearer lcid s) (has_bearer lcid t) s t (bearer_same a lcid s t h) h
told_record a one g p s t h = h

-- by the accounts before it
record_both : (a : Accounts) (one : Record) (g : Giving given.History) (s : Sending Events) (t : Sending SentOctets)
    → AreAlike a s t
    → AreAlike a (record_told histories given.histories one g s)
    (record_told accounts given.accounts one (giving_image g) t)
record_both a one g s t h =
    subst (λ (p : Option PassedSdu). AreAlike a (record_told histories given.histories one g s)
    (tells accounts given.accounts one (giving_image g) p (with_passed None t)))
    (sym (ap (λ (x : Sending SentOctets). x.passed) h.is))
    (told_record a one g s.passed (with_passed None s) (with_passed None t) (passed_both a None None s t refl h))

pub record_alike : (one : Record) (g : Giving given.History) (s : Sending Events) (t : Sending SentOctets)
    → AreAlike g.kept.journal.flows s t
    → AreAlike (after_given given.histories one g).kept.journal.flows
    (after_record histories given.histories one (settled_given given.histories one g) s)
    (after_record accounts given.accounts one (giving_image (settled_given given.histories one g)) t)
record_alike one g s t h =
    let before = settled_given given.histories one g in
    goes_on one g (after_record histories given.histories one before s)
    (after_record accounts given.accounts one (giving_image before) t)
    (record_both g.kept.journal.flows one before (settled one s) (settled one t)
    (settled_both g.kept.journal.flows one s t h))
