-- What is kept of a journal does, group by group, what its history does.
use Rattle.std.proofs.Common.{◌≡◌, ℕ, zero, suc, ◌+◌, Bool, true, false, List, [], ◌∷◌, map, replicate, Option, Some}
use Rattle.std.proofs.Common.{None, slice_set, slice_index_or, refl, ap, sym, ◌∙◌, arith, subst}
use Rattle.std.specs.Prelude.{option_map}
use Rattle.eps_sec.specs.declared.Keys.{Keys}
use Rattle.l2_types.specs.declared.side.Side.{Side}
use Rattle.l2_types.specs.declared.side.Side.TheVariants.{Nb, Ue}
use Rattle.mac_pdu.specs.declared.builder.Sdu.{Sdu}
use Rattle.mac_pdu.specs.Reading.{reading}
use Rattle.bearer_types.specs.declared.config.BearerConfig.{BearerConfig}
use Rattle.bearer_types.specs.declared.event.Event.{Event}
use Rattle.bearer_types.specs.declared.event.Event.TheVariants as events
use Rattle.bearer_types.specs.Sides.{sender_of}
use Rattle.air_record.specs.declared.line.Line.{Line}
use Rattle.air_record.specs.declared.line.Line.TheVariants as lines
use Rattle.air_record.specs.declared.record.Record.{Record}
use Rattle.air_record.specs.declared.record.Record.TheVariants as records
use Rattle.air_text.specs.Groups.{Group}
use Rattle.pdu_show.specs.Kinds.{layout_of}
use Rattle.journal_lives.specs.FlowLives.{FlowLives}
use Rattle.journal_stream.specs.SentOctets.{SentOctets}
use Rattle.journal_takes.specs.FlowTakes.{FlowTakes}
use Rattle.journal_flows.specs.declared.account.Account.{Account}
use Rattle.journal_flows.specs.Gathering.{Journal, sdus_read, behind_end}
use Rattle.journal_flows.specs.Accounts.{Accounts, Keeping, slot_ended, acked_in, account_at, begun, account_begun}
use Rattle.journal_flows.specs.Accounts.{accounts_ended, accounts as account_steps}
use Rattle.journal_given.specs.Supplies as given
use Rattle.journal_given.specs.Giving.{Giving, each_from, all_given, given_within}
use Rattle.journal_given.specs.Giving as giving
use Rattle.journal_given.proofs.Images.{giving_image, settled_image, within_image, given_image}
use Rattle.journal_sent.specs.declared.checker.NamedPdu.{NamedPdu}
use Rattle.air_record.specs.declared.submission.Submission.{Submission}
use Rattle.air_record.specs.Submissions.{unrefused}
use Rattle.journal_sent.specs.declared.checker.PassedSdu.{PassedSdu}
use Rattle.journal_sent.specs.SentPdus.{Keeper, histories, accounts}
use Rattle.journal_sent.specs.SentFlows.{SentFlow, cover_of, flow_submitted, flow_taken, flow_renewed, flow_settled}
use Rattle.journal_sent.specs.SentFlows.{flow_reported, flow_discarded}
use Rattle.journal_sent.specs.Sending.{Flows, flow_at, Sending, flows_of, with_flows, changed_on, bearer_begun}
use Rattle.journal_sent.specs.Sending.{after_line, is_known, lcid_in, judged, sdu_of, event_told}
use Rattle.journal_sent.specs.Sending.{named_of, with_named, pdu_told_by, acked_at, pdu_told, pdus_told, tells}
use Rattle.journal_sent.specs.Sending.{submits_own, released, settled, after_record, renewed_by, keys_behind}
use Rattle.journal_sent.specs.Sending.{after_group}
use Rattle.journal_sent.specs.Sending.{records_told, sending_within, all_sending, flow_closed, closed}
use Rattle.journal_sent.proofs.Grows.{hands_keep, group_keeps}
use Rattle.journal_sent.proofs.KeptStreams.{Events}
use Rattle.journal_sent.proofs.KeptFlows.{IsAlike, begun_alike, renewed_alike, settled_alike}
use Rattle.journal_sent.proofs.Records.{SlotAlike, AllAlike, set_alike, dressed, AreAlike, stepped, plain_step}
use Rattle.journal_sent.proofs.Records.{left_both, record_alike}

-- ---- keys of the next life are told where the accounts' lives end

abbrev pub Renews : Option Keys → Bool → Type 0
Renews None false = Unit {0}
Renews (Some keys) true = Unit {0}
Renews renewal hands_over = ⊥

pub record IsWithin (g : Giving given.History) (s : Sending Events) (t : Sending SentOctets) : Type 0 where
  pub alike : AreAlike g.kept.journal.flows s t
  pub renews : Renews s.renewal g.kept.hands_over

-- no record tells any
flows_renew : (side : Side) (fs : Flows Events) (s : Sending Events) → (with_flows side fs s).renewal ≡ s.renewal
flows_renew Nb fs s = refl
flows_renew Ue fs s = refl

named_renews : (side : Side) (named : List NamedPdu) (s : Sending Events)
    → (with_named side named s).renewal ≡ s.renewal
named_renews Nb named s = refl
named_renews Ue named s = refl

event_renews : (side : Side) (event : Event) (g : Giving given.History) (p : Option PassedSdu) (s : Sending Events)
    → (event_told histories given.histories side event g p s).renewal ≡ s.renewal
event_renews side (events.Take lcid count len) g p s =
    flows_renew side (changed_on lcid
    (flow_taken histories count len (sdu_of given.histories side lcid count g)) (flows_of side s)) s
event_renews side (events.Report lcid fms bitmap) g p s =
    flows_renew side (changed_on lcid (flow_reported histories fms bitmap) (flows_of side s)) s
event_renews side (events.Discard lcid len) g p s =
    flows_renew side (changed_on lcid flow_discarded (flows_of side s)) s
event_renews Nb (events.Send lcid how sn) g p s = refl
event_renews Ue (events.Send lcid how sn) g p s = refl
event_renews side event g p s = refl

pdu_renews : (side : Side) (acked : ℕ → Bool) (n : NamedPdu) (d : Sdu) (o : Option (SentFlow Events))
    (s : Sending Events) → (pdu_told_by histories side acked n d o s).renewal ≡ s.renewal
pdu_renews Nb acked n d None s = refl
pdu_renews Ue acked n d None s = refl
pdu_renews Nb acked n d (Some f) s = refl
pdu_renews Ue acked n d (Some f) s = refl

pdus_renew : (side : Side) (g : Giving given.History) (named : List NamedPdu) (sdus : List Sdu) (s : Sending Events)
    → (pdus_told histories side g named sdus s).renewal ≡ s.renewal
pdus_renew side g [] sdus s = refl
pdus_renew side g (n ∷ named) [] s = refl
pdus_renew side g (n ∷ named) (d ∷ sdus) s =
    pdus_renew side g named sdus (pdu_told histories side g n d s)
    ∙ pdu_renews side (acked_at side d.lcid g) n d (flow_at d.lcid (flows_of side s)) s

record_renews : (one : Record) (g : Giving given.History) (p : Option PassedSdu) (s : Sending Events)
    → (tells histories given.histories one g p s).renewal ≡ s.renewal
record_renews (records.Of side event) g p s = event_renews side event g p (judged (is_known (lcid_in event) s) s)
record_renews (records.Block direction process true version octets) g p s =
    pdus_renew (sender_of direction) g (named_of (sender_of direction) s) (sdus_read (reading direction octets))
    (with_named (sender_of direction) [] s) ∙ named_renews (sender_of direction) [] s
record_renews (records.Block direction process false version octets) g p s = refl
record_renews (records.Looped lcid octets) g p s = refl
record_renews (records.Refused side lcid why) g p s = refl
record_renews one g p s = refl

own_renews : (o : Option Submission) (s : Sending Events) → (submits_own o s).renewal ≡ s.renewal
own_renews None s = refl
own_renews (Some d) s = flows_renew d.side (changed_on d.lcid (flow_submitted d.octets) (flows_of d.side s)) s

released_renews : (o : Option Submission) (s : Sending Events) → (released o s).renewal ≡ s.renewal
released_renews o s = own_renews o (record s { submitted = None })

-- ---- a line

begins : (a : Accounts) (config : BearerConfig) (s : Sending Events) (nb ue : Flows SentOctets)
    → AllAlike a.nb s.nb nb → AllAlike a.ue s.ue ue → (options : List ℕ)
    → AreAlike (account_begun config a) (after_line histories (lines.Bearer config options) s)
    (after_line accounts (lines.Bearer config options) (dressed nb ue s))
begins a config s nb ue h k options =
    let layout = layout_of config.kind config.rlc_bits config.pdcp_bits in
    record {
      nb = slice_set nb config.channel.lcid (bearer_begun accounts Nb s.keys config);
      ue = slice_set ue config.channel.lcid (bearer_begun accounts Ue s.keys config);
      is = refl;
      nb_alike = set_alike config.channel.lcid (begun config) (bearer_begun histories Nb s.keys config)
          (bearer_begun accounts Nb s.keys config) a.nb s.nb nb
          (begun_alike (acked_in (begun config)) layout (cover_of layout Nb config.channel.lcid s.keys)) h;
      ue_alike = set_alike config.channel.lcid (begun config) (bearer_begun histories Ue s.keys config)
          (bearer_begun accounts Ue s.keys config) a.ue s.ue ue
          (begun_alike (acked_in (begun config)) layout (cover_of layout Ue config.channel.lcid s.keys)) k;
    }

none_renewed : (s : Sending Events) → s.renewal ≡ None → Renews s.renewal false
none_renewed s none = subst (λ (o : Option Keys). Renews o false) (sym none) tt

pub line_alike : (line : Line) (g : Giving given.History) (s : Sending Events) (t : Sending SentOctets)
    → AreAlike g.kept.journal.flows s t → s.renewal ≡ None
    → IsWithin (giving.after_line given.histories line g) (after_line histories line s) (after_line accounts line t)
line_alike (lines.Bearer config options) g s t h none = record {
  alike = stepped g.kept.journal.flows (account_begun config g.kept.journal.flows)
      (after_line accounts (lines.Bearer config options)) s (after_line histories (lines.Bearer config options) s)
      (λ nb ue x y. begins g.kept.journal.flows config s nb ue x y options) t h;
  renews = none_renewed s none;
}
line_alike (lines.Keys keys) g s t h none = record {
  alike = plain_step g.kept.journal.flows (after_line accounts (lines.Keys keys)) s
      (after_line histories (lines.Keys keys) s) refl refl (λ nb ue. refl) t h;
  renews = none_renewed s none;
}
line_alike (lines.Handover user rrc integrity) g s t h none = record {
  alike = plain_step g.kept.journal.flows (after_line accounts (lines.Handover user rrc integrity)) s
      (after_line histories (lines.Handover user rrc integrity) s) refl refl (λ nb ue. refl) t h;
  renews = tt;
}
line_alike line g s t h none = record {
  alike = plain_step g.kept.journal.flows (after_line accounts line) s (after_line histories line s) refl refl
      (λ nb ue. refl) t h;
  renews = none_renewed s none;
}

-- ---- records; beside them, what PDCP gives by accounts is that by histories, whatever follows

abbrev pub GiveAlike : Giving given.History → Giving FlowTakes → Type 0
GiveAlike g own = (rest : List Record)
    → giving_image (giving.after_records given.histories rest g) ≡ giving.after_records given.accounts rest own

settled_alike_by : (one : Record) (g : Giving given.History) (own : Giving FlowTakes) → GiveAlike g own
    → giving_image (giving.settled given.histories one g) ≡ giving.settled given.accounts one own
settled_alike_by one g own given_alike =
    settled_image one g ∙ ap (giving.settled given.accounts one) (given_alike [])

pub record_within : (one : Record) (g : Giving given.History) (own : Giving FlowTakes) (s : Sending Events)
    (t : Sending SentOctets) → GiveAlike g own → IsWithin g s t
    → IsWithin (giving.after_record given.histories one g)
    (after_record histories given.histories one (giving.settled given.histories one g) s)
    (after_record accounts given.accounts one (giving.settled given.accounts one own) t)
record_within one g own s t given_alike h =
    let before = giving.settled given.histories one g in
    let d = settled one s in
    let renewal : (after_record histories given.histories one before s).renewal ≡ s.renewal =
    record_renews one before d.passed (record d { passed = None })
    ∙ released_renews (unrefused one s.submitted) s in
    subst (λ (x : Giving FlowTakes). IsWithin (giving.after_record given.histories one g)
    (after_record histories given.histories one before s) (after_record accounts given.accounts one x t))
    (settled_alike_by one g own given_alike)
    (record {
      alike = record_alike one g s t h.alike;
      renews = subst (λ (o : Option Keys). Renews o (giving.after_record given.histories one g).kept.hands_over)
          (sym renewal) (subst (Renews s.renewal) (sym (hands_keep one g)) h.renews);
    })

pub records_within : (told : List Record) (g : Giving given.History) (own : Giving FlowTakes) (s : Sending Events)
    (t : Sending SentOctets) → GiveAlike g own → IsWithin g s t
    → IsWithin (giving.after_records given.histories told g) (records_told histories given.histories told g s)
    (records_told accounts given.accounts told own t)
records_within [] g own s t given_alike h = h
records_within (one ∷ told) g own s t given_alike h =
    records_within told (giving.after_record given.histories one g) (giving.after_record given.accounts one own)
    (after_record histories given.histories one (giving.settled given.histories one g) s)
    (after_record accounts given.accounts one (giving.settled given.accounts one own) t)
    (λ rest. given_alike (one ∷ rest)) (record_within one g own s t given_alike h)

-- ---- a group ends

abbrev closes : {T : Type 0} → Keeper T → Option Keys → (ℕ → Option FlowLives) → ℕ → Option (SentFlow T)
    → Option (SentFlow T)
closes k renewal account lcid o =
    option_map (λ (f : SentFlow _). flow_settled k (account lcid) (renewed_by k renewal f)) o

closes_so : {T X : Type 0} (k : Keeper T) (renewal : Option Keys) (side : Side) (j : Giving X) (lcid : ℕ)
    (o : Option (SentFlow T)) → flow_closed k renewal side j lcid o
    ≡ closes k renewal (λ (l : ℕ). account_at side l j.kept.journal.flows) lcid o
closes_so k renewal side j lcid None = refl
closes_so k renewal side j lcid (Some f) = refl

each_same : {A : Type 0} (f g : ℕ → A → A) → ((lcid : ℕ) (x : A) → f lcid x ≡ g lcid x) → (n : ℕ) (xs : List A)
    → each_from f n xs ≡ each_from g n xs
each_same f g same n [] = refl
each_same f g same n (x ∷ xs) =
    ap (λ (y : _). y ∷ each_from f (n + 1) xs) (same n x)
    ∙ ap (λ (ys : List _). g n x ∷ ys) (each_same f g same (n + 1) xs)

slot_settled : (slot : Option Account) (account : Option FlowLives) → account ≡ acked_in slot
    → (x : Option (SentFlow Events)) (y : Option (SentFlow SentOctets)) → SlotAlike slot x y
    → SlotAlike slot (option_map (λ (f : SentFlow Events). flow_settled histories account f) x)
    (option_map (λ (f : SentFlow SentOctets). flow_settled accounts account f) y)
slot_settled slot account is None None h = tt
slot_settled slot account is None (Some g) h = absurd h
slot_settled slot account is (Some f) None h = absurd h
slot_settled slot account is (Some f) (Some g) h =
    subst (λ (l : Option FlowLives). IsAlike (acked_in slot) (flow_settled histories l f) (flow_settled accounts l g))
    (sym is) (settled_alike (acked_in slot) f g h)

slot_renewed : (keys : Keys) (slot after : Option Account) (x : Option (SentFlow Events))
    (y : Option (SentFlow SentOctets)) → SlotAlike slot x y
    → SlotAlike after (option_map (λ (f : SentFlow Events). flow_renewed histories keys f) x)
    (option_map (λ (f : SentFlow SentOctets). flow_renewed accounts keys f) y)
slot_renewed keys slot after None None h = tt
slot_renewed keys slot after None (Some g) h = absurd h
slot_renewed keys slot after (Some f) None h = absurd h
slot_renewed keys slot after (Some f) (Some g) h = renewed_alike (acked_in slot) (acked_in after) keys f g h

slot_closed : (keys : Keys) (slot after : Option Account) (account : Option FlowLives) → account ≡ acked_in after
    → (x : Option (SentFlow Events)) (y : Option (SentFlow SentOctets)) → SlotAlike slot x y
    → SlotAlike after
    (option_map (λ (f : SentFlow Events). flow_settled histories account (flow_renewed histories keys f)) x)
    (option_map (λ (f : SentFlow SentOctets). flow_settled accounts account (flow_renewed accounts keys f)) y)
slot_closed keys slot after account is None None h = tt
slot_closed keys slot after account is None (Some g) h = absurd h
slot_closed keys slot after account is (Some f) None h = absurd h
slot_closed keys slot after account is (Some f) (Some g) h =
    slot_settled after account is (Some (flow_renewed histories keys f)) (Some (flow_renewed accounts keys g))
    (slot_renewed keys slot after (Some f) (Some g) h)

-- accounts by channel, which is so much for the first of them
abbrev AccountsFrom : ℕ → (ℕ → Option FlowLives) → List (Option Account) → Type 0
AccountsFrom n account slots = (k : ℕ) → account (n + k) ≡ acked_in (slice_index_or slots k None)

first_from : (n : ℕ) (account : ℕ → Option FlowLives) (slot : Option Account) (slots : List (Option Account))
    → AccountsFrom n account (slot ∷ slots) → account n ≡ acked_in slot
first_from n account slot slots h = let same : n ≡ n + 0 = omega arith in ap account same ∙ h 0

rest_from : (n : ℕ) (account : ℕ → Option FlowLives) (slot : Option Account) (slots : List (Option Account))
    → AccountsFrom n account (slot ∷ slots) → AccountsFrom (n + 1) account slots
rest_from n account slot slots h k = let same : n + 1 + k ≡ n + suc k = omega arith in ap account same ∙ h (suc k)

all_settled : (n : ℕ) (account : ℕ → Option FlowLives) (slots : List (Option Account)) (xs : Flows Events)
    (ys : Flows SentOctets) → AccountsFrom n account slots → AllAlike slots xs ys
    → AllAlike slots (each_from (closes histories None account) n xs) (each_from (closes accounts None account) n ys)
all_settled n account [] [] [] is h = tt
all_settled n account (slot ∷ slots) (x ∷ xs) (y ∷ ys) is h = (
  slot_settled slot (account n) (first_from n account slot slots is) x y h.0,
  all_settled (n + 1) account slots xs ys (rest_from n account slot slots is) h.1,
)
all_settled n account slots xs ys is h = absurd h

all_closed : (keys : Keys) (n : ℕ) (account : ℕ → Option FlowLives) (slots : List (Option Account))
    (xs : Flows Events) (ys : Flows SentOctets) → AccountsFrom n account (map slot_ended slots) → AllAlike slots xs ys
    → AllAlike (map slot_ended slots) (each_from (closes histories (Some keys) account) n xs)
    (each_from (closes accounts (Some keys) account) n ys)
all_closed keys n account [] [] [] is h = tt
all_closed keys n account (slot ∷ slots) (x ∷ xs) (y ∷ ys) is h = (
  slot_closed keys slot (slot_ended slot) (account n)
      (first_from n account (slot_ended slot) (map slot_ended slots) is) x y h.0,
  all_closed keys (n + 1) account slots xs ys (rest_from n account (slot_ended slot) (map slot_ended slots) is) h.1,
)
all_closed keys n account slots xs ys is h = absurd h

abbrev closed_by : {T : Type 0} → Keeper T → Option Keys → Accounts → Sending T → Sending T
closed_by k renewal a s = record {
  nb = each_from (closes k renewal (λ (lcid : ℕ). account_at Nb lcid a)) 0 s.nb;
  ue = each_from (closes k renewal (λ (lcid : ℕ). account_at Ue lcid a)) 0 s.ue;
  named_nb = [];
  named_ue = [];
  passed = None;
  submitted = None;
  keys = keys_behind renewal s.keys;
  renewal = None;
  sent = s.sent;
  shaped = s.shaped;
}

closed_so : {T X : Type 0} (k : Keeper T) (j : Giving X) (s : Sending T)
    → closed k j s ≡ closed_by k s.renewal j.kept.journal.flows s
closed_so k j s =
    let behind = closed_by k s.renewal j.kept.journal.flows s in
    ap (λ (fs : Flows _). record (closed k j s) { nb = fs }) (each_same (flow_closed k s.renewal Nb j)
    (closes k s.renewal (λ (l : ℕ). account_at Nb l j.kept.journal.flows)) (closes_so k s.renewal Nb j) 0 s.nb)
    ∙ ap (λ (fs : Flows _). record behind { ue = fs }) (each_same (flow_closed k s.renewal Ue j)
    (closes k s.renewal (λ (l : ℕ). account_at Ue l j.kept.journal.flows)) (closes_so k s.renewal Ue j) 0 s.ue)

accounts_nb : (a : Accounts) → AccountsFrom 0 (λ (lcid : ℕ). account_at Nb lcid a) a.nb
accounts_nb a k = let same : 0 + k ≡ k = omega arith in ap (λ (lcid : ℕ). account_at Nb lcid a) same

accounts_ue : (a : Accounts) → AccountsFrom 0 (λ (lcid : ℕ). account_at Ue lcid a) a.ue
accounts_ue a k = let same : 0 + k ≡ k = omega arith in ap (λ (lcid : ℕ). account_at Ue lcid a) same

closed_at : (renewal : Option Keys) (hands_over : Bool) → Renews renewal hands_over → (j : Journal Accounts)
    (s : Sending Events) (nb ue : Flows SentOctets) → AllAlike j.flows.nb s.nb nb → AllAlike j.flows.ue s.ue ue
    → AreAlike (behind_end account_steps hands_over j).flows
    (closed_by histories renewal (behind_end account_steps hands_over j).flows s)
    (closed_by accounts renewal (behind_end account_steps hands_over j).flows (dressed nb ue s))
closed_at None false renews j s nb ue h k = record {
  nb = each_from (closes accounts None (λ (lcid : ℕ). account_at Nb lcid j.flows)) 0 nb;
  ue = each_from (closes accounts None (λ (lcid : ℕ). account_at Ue lcid j.flows)) 0 ue;
  is = refl;
  nb_alike = all_settled 0 (λ (lcid : ℕ). account_at Nb lcid j.flows) j.flows.nb s.nb nb (accounts_nb j.flows) h;
  ue_alike = all_settled 0 (λ (lcid : ℕ). account_at Ue lcid j.flows) j.flows.ue s.ue ue (accounts_ue j.flows) k;
}
closed_at (Some keys) true renews j s nb ue h k = record {
  nb = each_from (closes accounts (Some keys) (λ (lcid : ℕ). account_at Nb lcid (accounts_ended j.flows))) 0 nb;
  ue = each_from (closes accounts (Some keys) (λ (lcid : ℕ). account_at Ue lcid (accounts_ended j.flows))) 0 ue;
  is = refl;
  nb_alike = all_closed keys 0 (λ (lcid : ℕ). account_at Nb lcid (accounts_ended j.flows)) j.flows.nb s.nb nb
      (accounts_nb (accounts_ended j.flows)) h;
  ue_alike = all_closed keys 0 (λ (lcid : ℕ). account_at Ue lcid (accounts_ended j.flows)) j.flows.ue s.ue ue
      (accounts_ue (accounts_ended j.flows)) k;
}
closed_at None true renews j s nb ue h k = absurd renews
closed_at (Some keys) false renews j s nb ue h k = absurd renews

closed_alike : (k : Keeping) (s : Sending Events) (t : Sending SentOctets) → AreAlike k.journal.flows s t
    → Renews s.renewal k.hands_over
    → AreAlike (behind_end account_steps k.hands_over k.journal).flows
    (closed_by histories s.renewal (behind_end account_steps k.hands_over k.journal).flows s)
    (closed_by accounts t.renewal (behind_end account_steps k.hands_over k.journal).flows t)
closed_alike k s t h renews =
    stepped k.journal.flows (behind_end account_steps k.hands_over k.journal).flows
    (λ (x : Sending SentOctets). closed_by accounts x.renewal (behind_end account_steps k.hands_over k.journal).flows x)
    s (closed_by histories s.renewal (behind_end account_steps k.hands_over k.journal).flows s)
    (closed_at s.renewal k.hands_over renews k.journal s) t h

group_alike : (g : Giving given.History) (s : Sending Events) (t : Sending SentOctets) → IsWithin g s t
    → AreAlike (giving.after_group given.histories g).kept.journal.flows
    (after_group histories (giving.after_group given.histories g) s)
    (after_group accounts (giving_image (giving.after_group given.histories g)) t)
group_alike g s t h =
    let last = left_both (λ (o : Option Submission). o) g.kept.journal.flows s t h.alike in
    let renews = subst (λ (o : Option Keys). Renews o g.kept.hands_over) (sym (released_renews s.submitted s))
    h.renews in
    let after = giving.after_group given.histories g in
    let told = closed_so histories after (released s.submitted s) in
    let own = closed_so accounts (giving_image after) (released t.submitted t) in
    subst (λ (x : Sending SentOctets). AreAlike after.kept.journal.flows (after_group histories after s) x) (sym own)
    (subst (λ (x : Sending Events). AreAlike after.kept.journal.flows x
    (closed_by accounts (released t.submitted t).renewal after.kept.journal.flows (released t.submitted t)))
    (sym told)
    (subst (λ (k : Keeping). AreAlike k.journal.flows
    (closed_by histories (released s.submitted s).renewal k.journal.flows (released s.submitted s))
    (closed_by accounts (released t.submitted t).renewal k.journal.flows (released t.submitted t)))
    (sym (group_keeps g))
    (closed_alike g.kept (released s.submitted s) (released t.submitted t) last renews)))

-- ---- a journal

none_alike : (n : ℕ) → AllAlike (replicate n None) (replicate n None) (replicate n None)
none_alike zero = tt
none_alike (suc n) = (tt, none_alike n)

none_renewing : (past : List Group) → (all_sending histories given.histories past).renewal ≡ None
none_renewing [] = refl
none_renewing (now ∷ past) = refl

pub give_alike : (now : Group) (past : List Group)
    → GiveAlike (giving.after_line given.histories now.line (all_given given.histories past))
    (giving.after_line given.accounts now.line (all_given given.accounts past))
give_alike now past rest =
    let group : Group = record { number = now.number; line = now.line; events = rest } in
    within_image group (all_given given.histories past) ∙ ap (given_within given.accounts group) (given_image past)

pub all_alike : (past : List Group)
    → AreAlike (all_given given.histories past).kept.journal.flows (all_sending histories given.histories past)
    (all_sending accounts given.accounts past)
all_alike [] = record {
  nb = replicate 11 None;
  ue = replicate 11 None;
  is = refl;
  nb_alike = none_alike 11;
  ue_alike = none_alike 11;
}
all_alike (now ∷ past) =
    subst (λ (own : Giving FlowTakes). AreAlike (all_given given.histories (now ∷ past)).kept.journal.flows
    (all_sending histories given.histories (now ∷ past))
    (after_group accounts own (sending_within accounts given.accounts now (all_given given.accounts past)
    (all_sending accounts given.accounts past)))) (given_image (now ∷ past))
    (group_alike (given_within given.histories now (all_given given.histories past))
    (sending_within histories given.histories now (all_given given.histories past)
    (all_sending histories given.histories past))
    (sending_within accounts given.accounts now (all_given given.accounts past)
    (all_sending accounts given.accounts past))
    (records_within now.events (giving.after_line given.histories now.line (all_given given.histories past))
    (giving.after_line given.accounts now.line (all_given given.accounts past))
    (after_line histories now.line (all_sending histories given.histories past))
    (after_line accounts now.line (all_sending accounts given.accounts past)) (give_alike now past)
    (line_alike now.line (all_given given.histories past) (all_sending histories given.histories past)
    (all_sending accounts given.accounts past) (all_alike past) (none_renewing past))))

pub begun_within : (now : Group) (past : List Group)
    → IsWithin (giving.after_line given.histories now.line (all_given given.histories past))
    (after_line histories now.line (all_sending histories given.histories past))
    (after_line accounts now.line (all_sending accounts given.accounts past))
begun_within now past =
    line_alike now.line (all_given given.histories past) (all_sending histories given.histories past)
    (all_sending accounts given.accounts past) (all_alike past) (none_renewing past)
