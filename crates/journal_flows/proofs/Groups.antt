-- Group by group, the accounts that are kept are those of the histories that are told.
use Rattle.std.proofs.Common.{◌≡◌, ℕ, zero, suc, ◌≤◌, Bool, true, false, List, [], ◌∷◌, length, replicate, Option, Some}
use Rattle.std.proofs.Common.{None}
use Rattle.std.proofs.Common.{inl, inr, refl, ap, sym, ◌∙◌, arith, subst, if◌then◌else◌, slice_set, slice_index_or}
use Rattle.std.proofs.lemmas.Bool.{cases_eq, eq-eqb, ne_eqb}
use Rattle.std.proofs.lemmas.List.{length-set, get_or-set_same, get_or-set_other}
use Rattle.l2_types.specs.declared.channel.Kind.{Kind}
use Rattle.l2_types.specs.declared.channel.Kind.TheVariants as bearers
use Rattle.l2_types.specs.declared.side.Side.{Side}
use Rattle.l2_types.specs.declared.side.Side.TheVariants.{Nb, Ue}
use Rattle.bearer_types.specs.declared.config.BearerConfig.{BearerConfig}
use Rattle.air_record.specs.declared.line.Line.{Line}
use Rattle.air_record.specs.declared.line.Line.TheVariants as lines
use Rattle.air_record.specs.declared.record.Record.{Record}
use Rattle.air_text.specs.Groups.{Group}
use Rattle.pdu_show.specs.declared.kinds.Layout.{Layout}
use Rattle.pdu_show.specs.Kinds.{layout_of}
use Rattle.promises.specs.Blocks.{kinds, kinds_by, with_bearer as with_layout}
use Rattle.journal_lives.specs.FlowLives.{lives_of}
use Rattle.journal_lives.specs.LifeEvents.{LifeEvent}
use Rattle.journal_flows.specs.Gathering.{Journal, behind_line, behind_end, behind_records, is_handover}
use Rattle.journal_flows.specs.Gathering.{within, behind, sending_of, MayTake}
use Rattle.journal_flows.specs.FlowsTold.{Histories, no_events, histories}
use Rattle.journal_flows.specs.UmPdus.{UmFlowEvent}
use Rattle.journal_flows.specs.Accounts.{Accounts, Keeping, accounts, no_accounts, slot_at, channels_of}
use Rattle.journal_flows.specs.Accounts.{account_at, um_flow_at, is_acked_kind}
use Rattle.journal_flows.specs.Accounts.{acked_in, unacked_in, after_line, after_record, after_records}
use Rattle.journal_flows.specs.Accounts.{kept_within, all_kept}
use Rattle.journal_flows.specs.Laws.{bearer_by, bearer_on, account_by, um_flow_as, um_flow_by, FlowsAreTold}
use Rattle.journal_flows.specs.Laws.{HistoriesAreLives, UmFlowsAreTold}
use Rattle.journal_flows.proofs.Same.{Bearers, Same, slot_as, slot_by, with_config, begins_same, ends_same}
use Rattle.journal_flows.proofs.Gathered.{Alike, sending_alike, records_alike}
use Rattle.journal_flows.proofs.Steps.{layout_by, AreKinds, accounts_agree}

abbrev SameJournal : Bearers → Journal Accounts → Journal Histories → Type 0
SameJournal bearers j h = Alike Accounts Histories (Same bearers) j h

-- ---- a line

abbrev by_line : Line → Bearers → Bearers
by_line line bearers lcid = bearer_by line lcid (bearers lcid)

record LineSame (line : Line) (bearers : Bearers) (ks : List (Option Layout)) (j : Journal Accounts)
    (h : Journal Histories) : Type 0 where
  kinds_are : AreKinds (by_line line bearers) (kinds_by line ks)
  journal : SameJournal (by_line line bearers) (behind_line accounts line j) (behind_line histories line h)

layout_at : (config : BearerConfig) (bearers : Bearers) (ks : List (Option Layout)) (l : ℕ) → AreKinds bearers ks
    → l ≤ 10 → slice_index_or (with_layout config ks) l None ≡ layout_by (with_config config bearers l)
layout_at config bearers ks l k low = elim (cases_eq l config.channel.lcid) [
  | inl here ↦
      ap (λ (n : ℕ). slice_index_or
      (slice_set ks n (Some (layout_of config.kind config.rlc_bits config.pdcp_bits))) l None) (sym here)
      ∙ get_or-set_same ks l (Some (layout_of config.kind config.rlc_bits config.pdcp_bits)) None
      (omega (arith, k.size))
      ∙ ap (λ (b : Bool). layout_by (if b then Some config else bearers l))
      (sym (eq-eqb config.channel.lcid l (sym here)))
  | inr apart ↦
      get_or-set_other ks config.channel.lcid l (Some (layout_of config.kind config.rlc_bits config.pdcp_bits)) None
      apart
      ∙ k.is l low
      ∙ ap (λ (b : Bool). layout_by (if b then Some config else bearers l))
      (sym (ne_eqb config.channel.lcid l (λ same. apart (sym same))))
]

line_same : (line : Line) (bearers : Bearers) (ks : List (Option Layout)) (j : Journal Accounts) (h : Journal Histories)
    → AreKinds bearers ks → SameJournal bearers j h → LineSame line bearers ks j h
line_same (lines.Bearer config options) bearers ks j h k s = record {
  kinds_are = record {
    size =
        length-set ks config.channel.lcid (Some (layout_of config.kind config.rlc_bits config.pdcp_bits)) ∙ k.size;
    is = λ l low. layout_at config bearers ks l k low;
  };
  journal = record {
    flows = begins_same bearers config j.flows h.flows s.flows;
    nb = s.nb;
    ue = s.ue;
  };
}
line_same line bearers ks j h k s = record { kinds_are = k; journal = s }

-- ---- a group's end

end_same : (bearers : Bearers) (hands_over : Bool) (j : Journal Accounts) (h : Journal Histories)
    → SameJournal bearers j h
    → SameJournal bearers (behind_end accounts hands_over j) (behind_end histories hands_over h)
end_same bearers true j h s =
    record { flows = ends_same bearers j.flows h.flows s.flows; nb = refl; ue = refl }
end_same bearers false j h s = s

-- ---- what is kept is gathered

record IsGathered (k : Keeping) (ks : List (Option Layout)) (j : Journal Accounts) (ends_lives : Bool)
    : Type 0 where
  kinds_are : k.kinds ≡ ks
  journal : k.journal ≡ j
  hands_over : k.hands_over ≡ ends_lives

records_kept : (may_take : MayTake) (past : List Group) (before told : List Record) (k : Keeping)
    → IsGathered (after_records may_take past before told k) k.kinds
    (behind_records accounts may_take past k.kinds before told k.journal) k.hands_over
records_kept may_take past before [] k = record { kinds_are = refl; journal = refl; hands_over = refl }
records_kept may_take past before (one ∷ told) k =
    records_kept may_take past (one ∷ before) told (after_record (may_take past before one) one k)

-- ---- groups

abbrev nothing : {A : Type 0} → Option A
nothing = None

none_there : {A : Type 0} (n l : ℕ) → slice_index_or (replicate n (nothing {A = A})) l nothing ≡ nothing
none_there zero l = refl
none_there (suc n) zero = refl
none_there (suc n) (suc l) = none_there n l

nowhere : (side : Side) (l : ℕ) → slot_at side l no_accounts ≡ None
nowhere Nb l = none_there 11 l
nowhere Ue l = none_there 11 l

sizes : (side : Side) → length (channels_of side no_accounts) ≡ 11
sizes Nb = refl
sizes Ue = refl

record Stands (may_take : MayTake) (past : List Group) (bearers : Bearers) (ks : List (Option Layout))
    (k : Keeping) (h : Journal Histories) : Type 0 where
  kept : k.kinds ≡ ks
  kinds_are : AreKinds bearers ks
  journal : SameJournal bearers k.journal h

abbrev on_channels : List Group → Bearers
on_channels past lcid = bearer_on lcid past

abbrev told_behind : MayTake → List Group → Journal Histories
told_behind may_take past = behind histories no_events may_take past

abbrev told_within : MayTake → Group → List Group → Journal Histories
told_within may_take now past = within histories may_take now past (told_behind may_take past)

within_stands : (may_take : MayTake) (now : Group) (past : List Group)
    → Stands may_take past (on_channels past) (kinds past) (all_kept may_take past) (told_behind may_take past)
    → Stands may_take (now ∷ past) (on_channels (now ∷ past)) (kinds (now ∷ past))
    (kept_within may_take now past (all_kept may_take past)) (told_within may_take now past)
within_stands may_take now past s =
    let k = all_kept may_take past in
    let line = line_same now.line (on_channels past) (kinds past) k.journal (told_behind may_take past) s.kinds_are
    s.journal in
    let g = records_kept may_take past [] now.events (after_line now.line k) in
    let ks : (after_line now.line (all_kept may_take past)).kinds ≡ kinds (now ∷ past) =
    ap (kinds_by now.line) s.kept in
    let same = records_alike Accounts Histories accounts histories (kinds (now ∷ past))
    (Same (on_channels (now ∷ past))) (accounts_agree (on_channels (now ∷ past)) (kinds (now ∷ past)) line.kinds_are)
    may_take past [] now.events (behind_line accounts now.line k.journal)
    (behind_line histories now.line (told_behind may_take past)) line.journal in
    record {
      kept = g.kinds_are ∙ ks;
      kinds_are = line.kinds_are;
      journal =
          subst (λ (j : Journal Accounts). SameJournal (on_channels (now ∷ past)) j (told_within may_take now past))
          (sym (g.journal ∙ ap (λ (l : List (Option Layout)). behind_records accounts may_take past l [] now.events
          (behind_line accounts now.line (all_kept may_take past).journal)) ks))
          same;
    }

stands : (may_take : MayTake) (past : List Group)
    → Stands may_take past (on_channels past) (kinds past) (all_kept may_take past) (told_behind may_take past)
stands may_take [] = record {
  kept = refl;
  kinds_are = record { size = refl; is = λ l low. none_there 11 l };
  journal = record {
    flows = record { size = sizes; lives = λ side lcid. tt; is = λ side lcid low. nowhere side lcid };
    nb = refl;
    ue = refl;
  };
}
stands may_take (now ∷ past) =
    let w = within_stands may_take now past (stands may_take past) in
    let k = kept_within may_take now past (all_kept may_take past) in
    let g = records_kept may_take past [] now.events (after_line now.line (all_kept may_take past)) in
    record {
      kept = w.kept;
      kinds_are = w.kinds_are;
      journal = subst (λ (b : Bool). SameJournal (on_channels (now ∷ past))
          (behind_end accounts b (kept_within may_take now past (all_kept may_take past)).journal)
          (told_behind may_take (now ∷ past)))
          (sym g.hands_over)
          (end_same (on_channels (now ∷ past)) (is_handover now.line) k.journal (told_within may_take now past)
          w.journal);
    }

-- ---- what is kept of a channel, by the kind of its bearer

acked_slot : (bearer : Option BearerConfig) (es : List LifeEvent) (us : List UmFlowEvent)
    → acked_in (slot_by bearer es us) ≡ account_by bearer es
acked_slot None es us = refl
acked_slot (Some config) es us = by config.kind
  where
    by : (kind : Kind)
        → acked_in (slot_as kind config es us)
        ≡ (if is_acked_kind kind then Some (lives_of config.tx.max_retx config.first es) else None)
    by bearers.Tm = refl
    by bearers.Srb = refl
    by bearers.Um = refl
    by bearers.Am = refl

unacked_slot : (bearer : Option BearerConfig) (es : List LifeEvent) (us : List UmFlowEvent)
    → unacked_in (slot_by bearer es us) ≡ um_flow_by bearer us
unacked_slot None es us = refl
unacked_slot (Some config) es us = by config.kind
  where
    by : (kind : Kind) → unacked_in (slot_as kind config es us) ≡ um_flow_as kind config us
    by bearers.Tm = refl
    by bearers.Srb = refl
    by bearers.Um = refl
    by bearers.Am = refl

acked_at : (bearers : Bearers) (j : Journal Accounts) (h : Journal Histories) (side : Side) (lcid : ℕ) → lcid ≤ 10
    → SameJournal bearers j h
    → account_at side lcid j.flows ≡ account_by (bearers lcid) (h.flows.acked side lcid)
acked_at bearers j h side lcid low s =
    ap acked_in (s.flows.is side lcid low)
    ∙ acked_slot (bearers lcid) (h.flows.acked side lcid) (h.flows.unacked side lcid)

unacked_at : (bearers : Bearers) (j : Journal Accounts) (h : Journal Histories) (side : Side) (lcid : ℕ) → lcid ≤ 10
    → SameJournal bearers j h
    → um_flow_at side lcid j.flows ≡ um_flow_by (bearers lcid) (h.flows.unacked side lcid)
unacked_at bearers j h side lcid low s =
    ap unacked_in (s.flows.is side lcid low)
    ∙ unacked_slot (bearers lcid) (h.flows.acked side lcid) (h.flows.unacked side lcid)

pub flows_are_told : FlowsAreTold
flows_are_told may_take past side lcid low = record {
  behind = acked_at (on_channels past) (all_kept may_take past).journal (told_behind may_take past) side lcid low
      (stands may_take past).journal;
  within = λ now. acked_at (on_channels (now ∷ past)) (kept_within may_take now past (all_kept may_take past)).journal
      (told_within may_take now past) side lcid low
      (within_stands may_take now past (stands may_take past)).journal;
}

pub um_flows_are_told : UmFlowsAreTold
um_flows_are_told may_take past side lcid low = record {
  behind = unacked_at (on_channels past) (all_kept may_take past).journal (told_behind may_take past) side lcid low
      (stands may_take past).journal;
  within = λ now. unacked_at (on_channels (now ∷ past))
      (kept_within may_take now past (all_kept may_take past)).journal (told_within may_take now past) side lcid low
      (within_stands may_take now past (stands may_take past)).journal;
}

pub histories_are_lives : HistoriesAreLives
histories_are_lives may_take past side lcid = (stands may_take past).journal.flows.lives side lcid

-- ---- and so is what each side has named and sent, and the layouts are those of the bearers

pub sending_told : (may_take : MayTake) (now : Group) (past : List Group) (side : Side)
    → sending_of side (kept_within may_take now past (all_kept may_take past)).journal
    ≡ sending_of side (within histories may_take now past (behind histories no_events may_take past))
sending_told may_take now past side =
    sending_alike Accounts Histories (Same (on_channels (now ∷ past))) side
    (kept_within may_take now past (all_kept may_take past)).journal (told_within may_take now past)
    (within_stands may_take now past (stands may_take past)).journal

pub kinds_told : (may_take : MayTake) (now : Group) (past : List Group)
    → AreKinds (λ lcid. bearer_on lcid (now ∷ past)) (kept_within may_take now past (all_kept may_take past)).kinds
kinds_told may_take now past =
    let s = within_stands may_take now past (stands may_take past) in
    subst (AreKinds (on_channels (now ∷ past))) (sym s.kept) s.kinds_are
