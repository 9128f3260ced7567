-- Behind each record of a group, what is kept is that of the histories.
use Rattle.std.proofs.Common.{◌≡◌, ℕ, ◌≤◌, Bool, true, false, List, [], ◌∷◌, ◌++◌, length, Option, Some, None}
use Rattle.std.proofs.Common.{inl, inr, refl, ap, sym, ◌∙◌, arith, if◌then◌else◌, slice_set, slice_index_or}
use Rattle.std.proofs.Common.{zero, suc, replicate, append-nil, append_assoc}
use Rattle.std.specs.Prelude.{◌==◌}
use Rattle.std.proofs.lemmas.Bool.{cases_eq, eq-eqb, ne_eqb}
use Rattle.std.proofs.lemmas.List.{get_or-set_same, get_or-set_other, length-set}
use Rattle.l2_types.specs.declared.side.Side.{Side}
use Rattle.l2_types.specs.declared.side.Side.TheVariants.{Nb, Ue}
use Rattle.bearer_types.specs.declared.config.BearerConfig.{BearerConfig}
use Rattle.air_record.specs.declared.line.Line.{Line}
use Rattle.air_record.specs.declared.line.Line.TheVariants as lines
use Rattle.air_record.specs.declared.record.Record.{Record}
use Rattle.air_text.specs.Groups.{Group}
use Rattle.journal_account.specs.Acked.{ignored_in}
use Rattle.journal_account.specs.FlowAccount.{FlowAccount}
use Rattle.journal_account.proofs.Accounts.{accounts_are_true}
use Rattle.journal_lives.specs.FlowLives.{lives_of}
use Rattle.journal_lives.specs.LifeEvents.{LifeEvent, LifeEnded, running, AreLives}
use Rattle.journal_lives.proofs.LivesTold.{lives_are_true}
use Rattle.journal_flows.specs.Gathering.{Journal, MayTake, behind_line, behind_end, within, behind, is_handover}
use Rattle.journal_flows.specs.FlowsTold.{Histories, histories, no_events, flows_told, flows_within}
use Rattle.journal_flows.specs.Accounts.{Keeping, is_acked_kind, after_records, kept_within, all_kept}
use Rattle.journal_flows.specs.Accounts.{after_line as kept_at, after_record as kept_behind}
use Rattle.journal_flows.specs.Laws.{bearer_on, bearer_by, account_by}
use Rattle.journal_flows.proofs.Groups.{flows_are_told, histories_are_lives, sending_told, kinds_told}
use Rattle.journal_status.specs.RightStatus.{up_to, told_within, ignored_by, ignored_within}
use Rattle.journal_status.specs.StatusChecking.{Checking, tolds_of, none_told, ignored_kept, ignored_at, after_line}
use Rattle.journal_status.specs.StatusChecking.{tolds_behind, after_group}
use Rattle.journal_status.proofs.StatusReports.{IsKept, in_life}
use Rattle.journal_status.proofs.StatusRecords.{told_at, Sizes}

-- ---- histories

lives_within : (may_take : MayTake) (now : Group) (past : List Group) (side : Side) (l : ℕ)
    → AreLives (flows_within may_take now past side l)
lives_within may_take now past side l =
    by (is_handover now.line) (within histories may_take now past (behind histories no_events may_take past))
    (histories_are_lives may_take (now ∷ past) side l)
  where
    by : (b : Bool) (j : Journal Histories) → AreLives ((behind_end histories b j).flows.acked side l)
        → AreLives (j.flows.acked side l)
    by true j h = h.1
    by false j h = h

abbrev pub kept_now : MayTake → Group → List Group → Keeping
kept_now may_take now past = kept_within may_take now past (all_kept may_take past)

pub is_kept : (may_take : MayTake) (now : Group) (past : List Group)
    → IsKept (λ lcid. bearer_on lcid (now ∷ past)) (kept_now may_take now past) (told_within may_take now past)
is_kept may_take now past = record {
  kinds_are = kinds_told may_take now past;
  sent = λ side. sending_told may_take now past side;
  lives = λ side lcid. lives_within may_take now past side lcid;
  is = λ side lcid low. (flows_are_told may_take past side lcid low).within now;
}

-- ---- how many STATUS were ignored

ignored_is : (bearer : Option BearerConfig) (es : List LifeEvent) → AreLives es
    → ignored_kept (account_by bearer es) ≡ ignored_by bearer es
ignored_is None es h = refl
ignored_is (Some config) es h = by (is_acked_kind config.kind)
  where
    by : (b : Bool)
        → ignored_kept (if b then Some (lives_of config.tx.max_retx config.first es) else None)
        ≡ (if b then ignored_in (running es) else 0)
    by true = ap (λ (a : FlowAccount). a.ignored) (lives_are_true config.tx.max_retx config.first es h).account
        ∙ (accounts_are_true config.tx.max_retx (running es) (in_life es h)).ignored
    by false = refl

pub ignored_now : (may_take : MayTake) (now : Group) (past : List Group) (side : Side) (l : ℕ) → l ≤ 10
    → ignored_at side (kept_now may_take now past) l ≡ ignored_within may_take now past side l
ignored_now may_take now past side l low =
    ap ignored_kept ((flows_are_told may_take past side l low).within now)
    ∙ ignored_is (bearer_on l (now ∷ past)) (flows_within may_take now past side l)
    (lives_within may_take now past side l)

-- ---- records of a group, one by one

-- what is kept behind some of them, of which the latest stands first in `before`
abbrev pub Follows : MayTake → Group → List Group → List Record → List Record → Keeping → Type 0
Follows may_take now past told before k =
    (rest : List Record) → after_records may_take past [] (told ++ rest) (kept_at now.line (all_kept may_take past))
    ≡ after_records may_take past before rest k

pub follows_one : (may_take : MayTake) (now : Group) (past : List Group) (told before : List Record) (k : Keeping)
    (one : Record) → Follows may_take now past told before k
    → Follows may_take now past (told ++ one ∷ []) (one ∷ before) (kept_behind (may_take past before one) one k)
follows_one may_take now past told before k one f rest =
    ap (λ (xs : List Record). after_records may_take past [] xs (kept_at now.line (all_kept may_take past)))
    (append_assoc told (one ∷ []) rest) ∙ f (one ∷ rest)

pub followed : (may_take : MayTake) (now : Group) (past : List Group) (told before : List Record) (k : Keeping)
    → Follows may_take now past told before k → k ≡ kept_now may_take (up_to told now) past
followed may_take now past told before k f =
    sym (f [])
    ∙ ap (λ (xs : List Record). after_records may_take past [] xs (kept_at now.line (all_kept may_take past)))
    (append-nil told)

-- ---- a line, and a group's end

none_first : (bearer : Option BearerConfig) → ignored_by bearer [] ≡ 0
none_first None = refl
none_first (Some config) = by (is_acked_kind config.kind)
  where
    by : (b : Bool) → (if b then ignored_in (running []) else 0) ≡ 0
    by true = refl
    by false = refl

none_ended : (bearer : Option BearerConfig) (es : List LifeEvent) → ignored_by bearer (LifeEnded ∷ es) ≡ 0
none_ended None es = refl
none_ended (Some config) es = by (is_acked_kind config.kind)
  where
    by : (b : Bool) → (if b then ignored_in (running (LifeEnded ∷ es)) else 0) ≡ 0
    by true = refl
    by false = refl

abbrev begins_on : ℕ → Line → Bool
begins_on l (lines.Bearer config options) = config.channel.lcid == l
begins_on l line = false

line_ignored : (line : Line) (bearer : Option BearerConfig) (j : Journal Histories) (side : Side) (l : ℕ)
    → ignored_by (bearer_by line l bearer) ((behind_line histories line j).flows.acked side l)
    ≡ (if begins_on l line then 0 else ignored_by bearer (j.flows.acked side l))
line_ignored (lines.Bearer config options) bearer j side l = by (config.channel.lcid == l)
  where
    by : (b : Bool) → ignored_by (if b then Some config else bearer) (if b then [] else j.flows.acked side l)
        ≡ (if b then 0 else ignored_by bearer (j.flows.acked side l))
    by true = none_first (Some config)
    by false = refl
line_ignored line bearer j side l = refl

begun_at : (lcid l : ℕ) (tolds : List ℕ) → length tolds ≡ 11 → l ≤ 10
    → slice_index_or (slice_set tolds lcid 0) l 0 ≡ (if lcid == l then 0 else slice_index_or tolds l 0)
begun_at lcid l tolds size low = elim (cases_eq l lcid) [
  | inl here ↦
      ap (λ (n : ℕ). slice_index_or (slice_set tolds n 0) l 0) (sym here)
      ∙ get_or-set_same tolds l 0 0 (omega (arith, size, low))
      ∙ ap (λ (b : Bool). if b then 0 else slice_index_or tolds l 0) (sym (eq-eqb lcid l (sym here)))
  | inr apart ↦
      get_or-set_other tolds lcid l 0 0 apart
      ∙ ap (λ (b : Bool). if b then 0 else slice_index_or tolds l 0)
      (sym (ne_eqb lcid l (λ same. apart (sym same))))
]

line_told : (side : Side) (line : Line) (l : ℕ) (c : Checking) → Sizes c → l ≤ 10
    → told_at side l (after_line line c) ≡ (if begins_on l line then 0 else told_at side l c)
line_told Nb (lines.Bearer config options) l c size low = begun_at config.channel.lcid l c.nb (size Nb) low
line_told Ue (lines.Bearer config options) l c size low = begun_at config.channel.lcid l c.ue (size Ue) low
line_told Nb line l c size low = refl
line_told Ue line l c size low = refl

pub line_sizes : (line : Line) (c : Checking) → Sizes c → Sizes (after_line line c)
line_sizes (lines.Bearer config options) c size Nb = length-set c.nb config.channel.lcid 0 ∙ size Nb
line_sizes (lines.Bearer config options) c size Ue = length-set c.ue config.channel.lcid 0 ∙ size Ue
line_sizes line c size Nb = size Nb
line_sizes line c size Ue = size Ue

pub line_right : (line : Line) (c : Checking) → (after_line line c).right ≡ c.right
line_right (lines.Bearer config options) c = refl
line_right line c = refl

-- between groups all ignored ones are told of
pub record Stands (may_take : MayTake) (past : List Group) (c : Checking) : Type 0 where
  pub sizes : Sizes c
  pub at : (side : Side) (l : ℕ) → l ≤ 10
      → told_at side l c ≡ ignored_by (bearer_on l past) (flows_told may_take past side l)

pub line_stands : (may_take : MayTake) (now : Group) (past : List Group) (c : Checking) → Stands may_take past c
    → (side : Side) (l : ℕ) → l ≤ 10
    → told_at side l (after_line now.line c) ≡ ignored_within may_take (up_to [] now) past side l
line_stands may_take now past c s side l low =
    line_told side now.line l c s.sizes low
    ∙ ap (λ (n : ℕ). if begins_on l now.line then 0 else n) (s.at side l low)
    ∙ sym (line_ignored now.line (bearer_on l past) (behind histories no_events may_take past) side l)

none_of : (n l told : ℕ) → slice_index_or (replicate n told) l told ≡ told
none_of zero l told = refl
none_of (suc n) zero told = refl
none_of (suc n) (suc l) told = none_of n l told

none_at : (l : ℕ) → slice_index_or none_told l 0 ≡ 0
none_at l = none_of 11 l 0

pub first_stands : (may_take : MayTake) (c : Checking) → c.nb ≡ none_told → c.ue ≡ none_told
    → Stands may_take [] c
first_stands may_take c nb ue = record {
  sizes = λ side. size side;
  at = λ side l low. first side l;
}
  where
    size : (side : Side) → length (tolds_of side c) ≡ 11
    size Nb = ap (λ (xs : List ℕ). length xs) nb
    size Ue = ap (λ (xs : List ℕ). length xs) ue

    first : (side : Side) (l : ℕ) → told_at side l c ≡ 0
    first Nb l = ap (λ (xs : List ℕ). slice_index_or xs l 0) nb ∙ none_at l
    first Ue l = ap (λ (xs : List ℕ). slice_index_or xs l 0) ue ∙ none_at l

end_told : (b : Bool) (tolds : List ℕ) (l : ℕ)
    → slice_index_or (tolds_behind b tolds) l 0 ≡ (if b then 0 else slice_index_or tolds l 0)
end_told true tolds l = none_at l
end_told false tolds l = refl

end_size : (b : Bool) (tolds : List ℕ) → length tolds ≡ 11 → length (tolds_behind b tolds) ≡ 11
end_size true tolds size = refl
end_size false tolds size = size

end_ignored : (b : Bool) (bearer : Option BearerConfig) (j : Journal Histories) (side : Side) (l : ℕ)
    → ignored_by bearer ((behind_end histories b j).flows.acked side l)
    ≡ (if b then 0 else ignored_by bearer (j.flows.acked side l))
end_ignored true bearer j side l = none_ended bearer (j.flows.acked side l)
end_ignored false bearer j side l = refl

group_told : (side : Side) (l : ℕ) (k : Keeping) (d : Checking)
    → told_at side l (after_group k d) ≡ (if d.hands_over then 0 else told_at side l d)
group_told Nb l k d = end_told d.hands_over d.nb l
group_told Ue l k d = end_told d.hands_over d.ue l

group_sizes : (k : Keeping) (d : Checking) → Sizes d → Sizes (after_group k d)
group_sizes k d size Nb = end_size d.hands_over d.nb (size Nb)
group_sizes k d size Ue = end_size d.hands_over d.ue (size Ue)

pub group_stands : (may_take : MayTake) (now : Group) (past : List Group) (d : Checking) → Sizes d
    → d.hands_over ≡ is_handover now.line
    → ((side : Side) (l : ℕ) → l ≤ 10 → told_at side l d ≡ ignored_within may_take now past side l)
    → Stands may_take (now ∷ past) (after_group (kept_now may_take now past) d)
group_stands may_take now past d size hands at = record {
  sizes = group_sizes (kept_now may_take now past) d size;
  at = λ side l low.
      group_told side l (kept_now may_take now past) d
      ∙ ap (λ (b : Bool). if b then 0 else told_at side l d) hands
      ∙ ap (λ (n : ℕ). if is_handover now.line then 0 else n) (at side l low)
      ∙ sym (end_ignored (is_handover now.line) (bearer_on l (now ∷ past)) (told_within may_take now past) side l);
}
