-- By the accounts that are kept PDUs are read as by the histories that are told.
use Rattle.std.proofs.Common.{◌≡◌, ℕ, ◌^◌, ◌≤◌, true, List, length, Option, Some, None, inl, inr, refl, ap, sym, ◌∙◌}
use Rattle.std.proofs.Common.{arith, slice_index_or}
use Rattle.std.proofs.lemmas.Bool.{cases_lt, false≢true}
use Rattle.std.proofs.lemmas.List.{get_or_past}
use Rattle.l2_types.specs.declared.channel.Kind.{Kind}
use Rattle.l2_types.specs.declared.channel.Kind.TheVariants as bearers
use Rattle.l2_types.specs.declared.side.Side.{Side}
use Rattle.rlc_pdu.specs.Reading.{am_at, umd_at}
use Rattle.bearer_types.specs.declared.config.BearerConfig.{BearerConfig}
use Rattle.bearer_types.specs.Sides.{other}
use Rattle.pdu_show.specs.declared.kinds.Layout.{Layout}
use Rattle.pdu_show.specs.Carried.{is_acknowledged}
use Rattle.pdu_show.specs.Kinds.{layout_of}
use Rattle.journal_flows.specs.declared.account.Account.{Account}
use Rattle.journal_flows.specs.declared.account.Account.TheVariants as account
use Rattle.journal_flows.specs.declared.sending.Named.{Named}
use Rattle.journal_account.specs.FlowEvents.{next_of}
use Rattle.journal_lives.specs.FlowLives.{lives_of}
use Rattle.journal_lives.specs.LifeEvents.{LifeEvent, running, AreLives}
use Rattle.journal_um.specs.UmWindow.{width_of}
use Rattle.journal_flows.specs.UmPdus.{UmFlowEvent, sent_in, place_next, um_parcel_by}
use Rattle.journal_flows.specs.NumberedPdus.{front_in, parcel_by}
use Rattle.journal_flows.specs.Gathering.{parcel_in, parcel_of}
use Rattle.journal_flows.specs.FlowsTold.{Histories, histories}
use Rattle.journal_flows.specs.Accounts.{Accounts, accounts, slot_at, next_kept, front_kept, um_next_kept}
use Rattle.journal_flows.specs.Accounts.{um_place_kept, is_acked_kind}
use Rattle.journal_flows.specs.UmKept.{ends_of}
use Rattle.journal_flows.proofs.Lives.{next_is, front_is}
use Rattle.journal_flows.proofs.UmNumbers.{um_next_is, um_place_is}
use Rattle.journal_flows.proofs.Same.{Bearers, is_acked, Same, slot_as, slot_by, told_same}
use Rattle.journal_flows.proofs.Gathered.{Agree}

-- ---- the layouts are those of the bearers

abbrev pub layout_by : Option BearerConfig → Option Layout
layout_by None = None
layout_by (Some config) = Some (layout_of config.kind config.rlc_bits config.pdcp_bits)

pub record AreKinds (bearers : Bearers) (kinds : List (Option Layout)) : Type 0 where
  pub size : length kinds ≡ 11
  pub is : (lcid : ℕ) → lcid ≤ 10 → slice_index_or kinds lcid None ≡ layout_by (bearers lcid)

kind_acked : (bearer : Option BearerConfig) → is_acknowledged (layout_by bearer) ≡ is_acked bearer
kind_acked None = refl
kind_acked (Some config) = by config.kind
  where
    by : (kind : Kind) → is_acknowledged (Some (layout_of kind config.rlc_bits config.pdcp_bits)) ≡ is_acked_kind kind
    by bearers.Tm = refl
    by bearers.Srb = refl
    by bearers.Um = refl
    by bearers.Am = refl

-- where a PDU is of an acknowledged bearer, there is one on the channel
pub record IsAcked (bearers : Bearers) (lcid : ℕ) : Type 0 where
  pub low : lcid ≤ 10
  pub acked : is_acked (bearers lcid) ≡ true

pub found : (bearers : Bearers) (kinds : List (Option Layout)) (lcid : ℕ) → AreKinds bearers kinds
    → is_acknowledged (slice_index_or kinds lcid None) ≡ true → IsAcked bearers lcid
found bearers kinds lcid k acked = elim (cases_lt 10 lcid) [
  | inl past ↦
      let none : slice_index_or kinds lcid None ≡ None = get_or_past kinds lcid None (omega (arith, k.size)) in
      absurd (false≢true (sym (ap is_acknowledged none) ∙ acked))
  | inr low ↦ record {
    low = low;
    acked = sym (kind_acked (bearers lcid)) ∙ sym (ap is_acknowledged (k.is lcid low)) ∙ acked;
  }
]

-- ---- a PDU of a bearer

-- an acknowledged one, by what is kept of its flow and of the other one
acked_reads : (config : BearerConfig) (lcid : ℕ) (one : Named) (octets : List ℕ) (own far : Option Account)
    (es fs : List LifeEvent) → own ≡ Some (account.Am (lives_of config.tx.max_retx config.first es))
    → far ≡ Some (account.Am (lives_of config.tx.max_retx config.first fs)) → AreLives es → AreLives fs
    → parcel_by (next_kept own) (front_kept far) lcid one.how (am_at octets)
    ≡ parcel_by (next_of (running es)) (front_in (running fs)) lcid one.how (am_at octets)
acked_reads config lcid one octets own far es fs o f h i =
    ap (λ (n : ℕ). parcel_by n (front_kept far) lcid one.how (am_at octets))
    (ap next_kept o ∙ next_is config.tx.max_retx config.first es h)
    ∙ ap (λ (n : ℕ). parcel_by (next_of (running es)) n lcid one.how (am_at octets))
    (ap front_kept f ∙ front_is config.tx.max_retx config.first fs i)

-- an unacknowledged one
unacked_reads : (config : BearerConfig) (lcid : ℕ) (one : Named) (octets : List ℕ) (own : Option Account)
    (us : List UmFlowEvent)
    → own ≡ Some (account.Um (ends_of (width_of config.rlc_bits) (2 ^ config.pdcp_bits) us))
    → um_parcel_by (um_next_kept own) (um_place_kept own) lcid one.how (umd_at config.rlc_bits octets)
    ≡ um_parcel_by (next_of (sent_in us)) (place_next (sent_in us)) lcid one.how (umd_at config.rlc_bits octets)
unacked_reads config lcid one octets own us o =
    ap (λ (n : ℕ). um_parcel_by n (um_place_kept own) lcid one.how (umd_at config.rlc_bits octets))
    (ap um_next_kept o ∙ um_next_is (sent_in us))
    ∙ ap (λ (n : ℕ). um_parcel_by (next_of (sent_in us)) n lcid one.how (umd_at config.rlc_bits octets))
    (ap um_place_kept o ∙ um_place_is (sent_in us))

by_bearer : (bearer : Option BearerConfig) (a : Accounts) (h : Histories) (from : Side) (one : Named)
    (octets : List ℕ)
    → slot_at from one.lcid a ≡ slot_by bearer (h.acked from one.lcid) (h.unacked from one.lcid)
    → slot_at (other from) one.lcid a
    ≡ slot_by bearer (h.acked (other from) one.lcid) (h.unacked (other from) one.lcid)
    → AreLives (h.acked from one.lcid) → AreLives (h.acked (other from) one.lcid)
    → parcel_in accounts (layout_by bearer) a from one octets
    ≡ parcel_in histories (layout_by bearer) h from one octets
by_bearer None a h from one octets own far i j = refl
by_bearer (Some config) a h from one octets own far i j = by config.kind own far
  where
    by : (kind : Kind)
        → slot_at from one.lcid a ≡ slot_as kind config (h.acked from one.lcid) (h.unacked from one.lcid)
        → slot_at (other from) one.lcid a
        ≡ slot_as kind config (h.acked (other from) one.lcid) (h.unacked (other from) one.lcid)
        → parcel_in accounts (Some (layout_of kind config.rlc_bits config.pdcp_bits)) a from one octets
        ≡ parcel_in histories (Some (layout_of kind config.rlc_bits config.pdcp_bits)) h from one octets
    by bearers.Tm o f = refl
    by bearers.Srb o f =
        acked_reads config one.lcid one octets (slot_at from one.lcid a) (slot_at (other from) one.lcid a)
        (h.acked from one.lcid) (h.acked (other from) one.lcid) o f i j
    by bearers.Um o f =
        unacked_reads config one.lcid one octets (slot_at from one.lcid a) (h.unacked from one.lcid) o
    by bearers.Am o f =
        acked_reads config one.lcid one octets (slot_at from one.lcid a) (slot_at (other from) one.lcid a)
        (h.acked from one.lcid) (h.acked (other from) one.lcid) o f i j

reads_same : (bearers : Bearers) (kinds : List (Option Layout)) (a : Accounts) (h : Histories) (from : Side)
    (one : Named) (octets : List ℕ) → AreKinds bearers kinds → Same bearers a h
    → parcel_of accounts kinds a from one octets ≡ parcel_of histories kinds h from one octets
reads_same bearers kinds a h from one octets k s = elim (cases_lt 10 one.lcid) [
  | inl past ↦
      let none : slice_index_or kinds one.lcid None ≡ None =
      get_or_past kinds one.lcid None (omega (arith, k.size)) in
      ap (λ (l : Option Layout). parcel_in accounts l a from one octets) none
      ∙ sym (ap (λ (l : Option Layout). parcel_in histories l h from one octets) none)
  | inr low ↦
      ap (λ (l : Option Layout). parcel_in accounts l a from one octets) (k.is one.lcid low)
      ∙ by_bearer (bearers one.lcid) a h from one octets (s.is from one.lcid low)
      (s.is (other from) one.lcid low) (s.lives from one.lcid) (s.lives (other from) one.lcid)
      ∙ sym (ap (λ (l : Option Layout). parcel_in histories l h from one octets) (k.is one.lcid low))
]

pub accounts_agree : (bearers : Bearers) (kinds : List (Option Layout)) → AreKinds bearers kinds
    → Agree Accounts Histories accounts histories kinds (Same bearers)
accounts_agree bearers kinds k = record {
  tells = λ t a h s. told_same bearers t a h s;
  reads = λ a h from one octets s. reads_same bearers kinds a h from one octets k s;
}
