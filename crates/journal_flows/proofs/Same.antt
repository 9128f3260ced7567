-- The accounts that are kept are those of the histories that are told, whatever is told of them.
use Rattle.std.proofs.Common.{◌≡◌, ℕ, ◌^◌, ◌≤◌, Bool, true, false, ◌==◌, List, [], ◌∷◌, length, Option}
use Rattle.std.proofs.Common.{Some, None, inl, inr, refl, ap, sym, ◌∙◌, arith, subst, if◌then◌else◌, slice_set}
use Rattle.std.proofs.Common.{slice_index_or}
use Rattle.std.proofs.lemmas.Bool.{cases_eq, eq-eqb, ne_eqb}
use Rattle.std.proofs.lemmas.List.{length-map, length-set, get_or-set_same, get_or-set_other, get_or-map}
use Rattle.l2_types.specs.declared.channel.Kind.{Kind}
use Rattle.l2_types.specs.declared.channel.Kind.TheVariants as bearers
use Rattle.l2_types.specs.declared.side.Side.{Side}
use Rattle.l2_types.specs.declared.side.Side.TheVariants.{Nb, Ue}
use Rattle.bearer_types.specs.declared.config.BearerConfig.{BearerConfig}
use Rattle.journal_lives.specs.FlowLives.{FlowLives, lives_of}
use Rattle.journal_lives.specs.LifeEvents.{LifeEvent, LifeEnded, AreLives}
use Rattle.journal_um.specs.UmWindow.{width_of}
use Rattle.journal_flows.specs.declared.account.Account.{Account}
use Rattle.journal_flows.specs.declared.account.Account.TheVariants.{Am, Um}
use Rattle.journal_flows.specs.Possible.{with_event}
use Rattle.journal_flows.specs.UmPdus.{UmFlowEvent}
use Rattle.journal_flows.specs.UmPdus as um
use Rattle.journal_flows.specs.NumberedPdus.{AnyEvent, Acked, Unacked, Told}
use Rattle.journal_flows.specs.FlowsTold.{Histories, is_at, with_any, with_told, with_bearer, all_ended}
use Rattle.journal_flows.specs.UmKept.{UmEnds, ends_of}
use Rattle.journal_flows.specs.Accounts.{is_acked_kind, Accounts, channels_of, slot_at, slot_with, slot_ended}
use Rattle.journal_flows.specs.Accounts.{channel_with, account_with, begun_as, begun, account_begun}
use Rattle.journal_flows.specs.Accounts.{channels_ended, accounts_ended}
use Rattle.journal_flows.proofs.Lives.{event_lives, kept_is}
use Rattle.journal_flows.proofs.UmNumbers.{ends_are}

abbrev pub Bearers : Type 0
Bearers = ℕ → Option BearerConfig

-- ---- the account of two histories, of which one is of the kind of the bearer

abbrev pub slot_as : Kind → BearerConfig → List LifeEvent → List UmFlowEvent → Option Account
slot_as bearers.Tm config es us = None
slot_as bearers.Srb config es us = Some (Am (lives_of config.tx.max_retx config.first es))
slot_as bearers.Um config es us = Some (Um (ends_of (width_of config.rlc_bits) (2 ^ config.pdcp_bits) us))
slot_as bearers.Am config es us = Some (Am (lives_of config.tx.max_retx config.first es))

abbrev pub slot_by : Option BearerConfig → List LifeEvent → List UmFlowEvent → Option Account
slot_by None es us = None
slot_by (Some config) es us = slot_as config.kind config es us

abbrev pub is_acked : Option BearerConfig → Bool
is_acked None = false
is_acked (Some config) = is_acked_kind config.kind

pub record Same (bearers : Bearers) (a : Accounts) (h : Histories) : Type 0 where
  pub size : (side : Side) → length (channels_of side a) ≡ 11
  pub lives : (side : Side) (lcid : ℕ) → AreLives (h.acked side lcid)
  pub is : (side : Side) (lcid : ℕ) → lcid ≤ 10
      → slot_at side lcid a ≡ slot_by (bearers lcid) (h.acked side lcid) (h.unacked side lcid)

-- ---- an event of a flow

acked_by : (bearer : Option BearerConfig) (e : LifeEvent) (es : List LifeEvent) (us : List UmFlowEvent) → AreLives es
    → slot_with (Acked e) (slot_by bearer es us) ≡ slot_by bearer (with_event e es) us
acked_by None e es us h = refl
acked_by (Some config) e es us h = by config.kind
  where
    by : (kind : Kind)
        → slot_with (Acked e) (slot_as kind config es us) ≡ slot_as kind config (with_event e es) us
    by bearers.Tm = refl
    by bearers.Srb = ap (λ (l : FlowLives). Some (Am l)) (kept_is config.tx.max_retx config.first e es h)
    by bearers.Um = refl
    by bearers.Am = ap (λ (l : FlowLives). Some (Am l)) (kept_is config.tx.max_retx config.first e es h)

unacked_by : (bearer : Option BearerConfig) (e : UmFlowEvent) (es : List LifeEvent) (us : List UmFlowEvent)
    → slot_with (Unacked e) (slot_by bearer es us) ≡ slot_by bearer es (e ∷ us)
unacked_by None e es us = refl
unacked_by (Some config) e es us = by config.kind
  where
    by : (kind : Kind) → slot_with (Unacked e) (slot_as kind config es us) ≡ slot_as kind config es (e ∷ us)
    by bearers.Tm = refl
    by bearers.Srb = refl
    by bearers.Um =
        ap (λ (u : UmEnds). Some (Um u)) (ends_are (width_of config.rlc_bits) (2 ^ config.pdcp_bits) e us)
    by bearers.Am = refl

pub changed_at : (f : Option Account → Option Account) (channels : List (Option Account)) (at l : ℕ)
    → length channels ≡ 11 → l ≤ 10
    → slice_index_or (slice_set channels at (f (slice_index_or channels at None))) l None
    ≡ (if at == l then f (slice_index_or channels l None) else slice_index_or channels l None)
changed_at f channels at l size low = elim (cases_eq l at) [
  | inl here ↦
      subst (λ (n : ℕ). slice_index_or (slice_set channels n (f (slice_index_or channels n None))) l None
      ≡ (if n == l then f (slice_index_or channels l None) else slice_index_or channels l None)) here
      (get_or-set_same channels l (f (slice_index_or channels l None)) None (omega (arith, size))
      ∙ ap (λ (b : Bool). if b then f (slice_index_or channels l None) else slice_index_or channels l None)
      (sym (eq-eqb l l refl)))
  | inr apart ↦
      get_or-set_other channels at l (f (slice_index_or channels at None)) None apart
      ∙ ap (λ (b : Bool). if b then f (slice_index_or channels l None) else slice_index_or channels l None)
      (sym (ne_eqb at l (λ same. apart (sym same))))
]

channel_same : (channels : List (Option Account)) (at l : ℕ) (e : AnyEvent) (slot : Bool → Option Account)
    → length channels ≡ 11 → l ≤ 10 → slice_index_or channels l None ≡ slot false
    → slot_with e (slot false) ≡ slot true → slice_index_or (channel_with at e channels) l None ≡ slot (at == l)
channel_same channels at l e slot size low is next =
    changed_at (slot_with e) channels at l size low ∙ by (at == l)
  where
    by : (b : Bool)
        → (if b then slot_with e (slice_index_or channels l None) else slice_index_or channels l None) ≡ slot b
    by true = ap (slot_with e) is ∙ next
    by false = is

pub told_size : (t : Told) (a : Accounts) (side : Side) → length (channels_of side a) ≡ 11
    → length (channels_of side (account_with t.side t.lcid t.event a)) ≡ 11
told_size t a side size = by t.side side size
  where
    by : (from s : Side) → length (channels_of s a) ≡ 11
        → length (channels_of s (account_with from t.lcid t.event a)) ≡ 11
    by Nb Nb h = length-set a.nb t.lcid (slot_with t.event (slice_index_or a.nb t.lcid None)) ∙ h
    by Nb Ue h = h
    by Ue Nb h = h
    by Ue Ue h = length-set a.ue t.lcid (slot_with t.event (slice_index_or a.ue t.lcid None)) ∙ h

told_lives : (from : Side) (own : ℕ) (e : AnyEvent) (h : Histories) (side : Side) (lcid : ℕ)
    → AreLives (h.acked side lcid) → AreLives ((with_any from own e h).acked side lcid)
told_lives from own (Acked e) h side lcid lives = by (is_at from own side lcid)
  where
    by : (b : Bool) → AreLives (if b then with_event e (h.acked side lcid) else h.acked side lcid)
    by true = event_lives e (h.acked side lcid) lives
    by false = lives
told_lives from own (Unacked e) h side lcid lives = lives

told_at : (bearers : Bearers) (own : ℕ) (e : AnyEvent) (a : Accounts) (h : Histories) → Same bearers a h
    → (from side : Side) (l : ℕ) → l ≤ 10
    → slot_at side l (account_with from own e a)
    ≡ slot_by (bearers l) ((with_any from own e h).acked side l) ((with_any from own e h).unacked side l)
told_at bearers own (Acked e) a h s Nb Nb l low =
    channel_same a.nb own l (Acked e)
    (λ (b : Bool). slot_by (bearers l) (if b then with_event e (h.acked Nb l) else h.acked Nb l) (h.unacked Nb l))
    (s.size Nb) low (s.is Nb l low) (acked_by (bearers l) e (h.acked Nb l) (h.unacked Nb l) (s.lives Nb l))
told_at bearers own (Unacked e) a h s Nb Nb l low =
    channel_same a.nb own l (Unacked e)
    (λ (b : Bool). slot_by (bearers l) (h.acked Nb l) (if b then e ∷ h.unacked Nb l else h.unacked Nb l))
    (s.size Nb) low (s.is Nb l low) (unacked_by (bearers l) e (h.acked Nb l) (h.unacked Nb l))
told_at bearers own (Acked e) a h s Nb Ue l low = s.is Ue l low
told_at bearers own (Unacked e) a h s Nb Ue l low = s.is Ue l low
told_at bearers own (Acked e) a h s Ue Nb l low = s.is Nb l low
told_at bearers own (Unacked e) a h s Ue Nb l low = s.is Nb l low
told_at bearers own (Acked e) a h s Ue Ue l low =
    channel_same a.ue own l (Acked e)
    (λ (b : Bool). slot_by (bearers l) (if b then with_event e (h.acked Ue l) else h.acked Ue l) (h.unacked Ue l))
    (s.size Ue) low (s.is Ue l low) (acked_by (bearers l) e (h.acked Ue l) (h.unacked Ue l) (s.lives Ue l))
told_at bearers own (Unacked e) a h s Ue Ue l low =
    channel_same a.ue own l (Unacked e)
    (λ (b : Bool). slot_by (bearers l) (h.acked Ue l) (if b then e ∷ h.unacked Ue l else h.unacked Ue l))
    (s.size Ue) low (s.is Ue l low) (unacked_by (bearers l) e (h.acked Ue l) (h.unacked Ue l))

pub told_same : (bearers : Bearers) (t : Told) (a : Accounts) (h : Histories) → Same bearers a h
    → Same bearers (account_with t.side t.lcid t.event a) (with_told t h)
told_same bearers t a h s = record {
  size = λ side. told_size t a side (s.size side);
  lives = λ side lcid. told_lives t.side t.lcid t.event h side lcid (s.lives side lcid);
  is = λ side lcid low. told_at bearers t.lcid t.event a h s t.side side lcid low;
}

-- ---- a bearer begins, and all lives end

abbrev pub with_config : BearerConfig → Bearers → Bearers
with_config config bearers lcid = if config.channel.lcid == lcid then Some config else bearers lcid

abbrev slot_behind : BearerConfig → Option BearerConfig → List LifeEvent → List UmFlowEvent → Bool → Option Account
slot_behind config bearer es us b =
    slot_by (if b then Some config else bearer) (if b then [] else es) (if b then [] else us)

begun_is : (config : BearerConfig) → begun config ≡ slot_by (Some config) [] []
begun_is config = by config.kind
  where
    by : (kind : Kind) → begun_as kind config ≡ slot_as kind config [] []
    by bearers.Tm = refl
    by bearers.Srb = refl
    by bearers.Um = refl
    by bearers.Am = refl

begun_at : (config : BearerConfig) (bearers : Bearers) (channels : List (Option Account)) (l : ℕ)
    (es : List LifeEvent) (us : List UmFlowEvent) → length channels ≡ 11 → l ≤ 10
    → slice_index_or channels l None ≡ slot_by (bearers l) es us
    → slice_index_or (slice_set channels config.channel.lcid (begun config)) l None
    ≡ slot_behind config (bearers l) es us (config.channel.lcid == l)
begun_at config bearers channels l es us size low is =
    changed_at (λ slot. begun config) channels config.channel.lcid l size low ∙ by (config.channel.lcid == l)
  where
    by : (b : Bool) → (if b then begun config else slice_index_or channels l None)
        ≡ slot_behind config (bearers l) es us b
    by true = begun_is config
    by false = is

pub begun_size : (config : BearerConfig) (a : Accounts) (side : Side) → length (channels_of side a) ≡ 11
    → length (channels_of side (account_begun config a)) ≡ 11
begun_size config a Nb h = length-set a.nb config.channel.lcid (begun config) ∙ h
begun_size config a Ue h = length-set a.ue config.channel.lcid (begun config) ∙ h

pub begins_same : (bearers : Bearers) (config : BearerConfig) (a : Accounts) (h : Histories) → Same bearers a h
    → Same (with_config config bearers) (account_begun config a) (with_bearer config h)
begins_same bearers config a h s = record {
  size = λ side. begun_size config a side (s.size side);
  lives = λ side lcid. lives (config.channel.lcid == lcid) side lcid;
  is = λ side lcid low. by side lcid low;
}
  where
    lives : (b : Bool) (side : Side) (lcid : ℕ) → AreLives (if b then [] else h.acked side lcid)
    lives true side lcid = tt
    lives false side lcid = s.lives side lcid

    by : (side : Side) (l : ℕ) → l ≤ 10 → slot_at side l (account_begun config a)
        ≡ slot_behind config (bearers l) (h.acked side l) (h.unacked side l) (config.channel.lcid == l)
    by Nb l low = begun_at config bearers a.nb l (h.acked Nb l) (h.unacked Nb l) (s.size Nb) low (s.is Nb l low)
    by Ue l low = begun_at config bearers a.ue l (h.acked Ue l) (h.unacked Ue l) (s.size Ue) low (s.is Ue l low)

slot_ends : (bearer : Option BearerConfig) (es : List LifeEvent) (us : List UmFlowEvent) → AreLives es
    → slot_ended (slot_by bearer es us) ≡ slot_by bearer (LifeEnded ∷ es) (um.LifeEnded ∷ us)
slot_ends None es us h = refl
slot_ends (Some config) es us h = by config.kind
  where
    by : (kind : Kind)
        → slot_ended (slot_as kind config es us) ≡ slot_as kind config (LifeEnded ∷ es) (um.LifeEnded ∷ us)
    by bearers.Tm = refl
    by bearers.Srb = ap (λ (l : FlowLives). Some (Am l)) (kept_is config.tx.max_retx config.first LifeEnded es h)
    by bearers.Um =
        ap (λ (u : UmEnds). Some (Um u))
        (ends_are (width_of config.rlc_bits) (2 ^ config.pdcp_bits) um.LifeEnded us)
    by bearers.Am = ap (λ (l : FlowLives). Some (Am l)) (kept_is config.tx.max_retx config.first LifeEnded es h)

pub ended_size : (a : Accounts) (side : Side) → length (channels_of side a) ≡ 11
    → length (channels_of side (accounts_ended a)) ≡ 11
ended_size a Nb h = length-map a.nb slot_ended ∙ h
ended_size a Ue h = length-map a.ue slot_ended ∙ h

pub ended_at : (channels : List (Option Account)) (l : ℕ) → length channels ≡ 11 → l ≤ 10
    → slice_index_or (channels_ended channels) l None ≡ slot_ended (slice_index_or channels l None)
ended_at channels l size low = get_or-map slot_ended channels l None None (omega (arith, size))

pub ends_same : (bearers : Bearers) (a : Accounts) (h : Histories) → Same bearers a h
    → Same bearers (accounts_ended a) (all_ended h)
ends_same bearers a h s = record {
  size = λ side. ended_size a side (s.size side);
  lives = λ side lcid. (tt, s.lives side lcid);
  is = λ side lcid low. by side lcid low;
}
  where
    by : (side : Side) (l : ℕ) → l ≤ 10 → slot_at side l (accounts_ended a)
        ≡ slot_by (bearers l) ((all_ended h).acked side l) ((all_ended h).unacked side l)
    by Nb l low =
        ended_at a.nb l (s.size Nb) low ∙ ap slot_ended (s.is Nb l low)
        ∙ slot_ends (bearers l) (h.acked Nb l) (h.unacked Nb l) (s.lives Nb l)
    by Ue l low =
        ended_at a.ue l (s.size Ue) low ∙ ap slot_ended (s.is Ue l low)
        ∙ slot_ends (bearers l) (h.acked Ue l) (h.unacked Ue l) (s.lives Ue l)
