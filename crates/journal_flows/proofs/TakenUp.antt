-- While a journal is read, what was taken of a flow is a beginning of what goes up of it.
use Rattle.std.proofs.Common.{◌≡◌, ℕ, ◌^◌, ◌<◌, ◌≤◌, Bool, true, false, List, [], ◌∷◌, Option, Some, None, refl}
use Rattle.std.proofs.Common.{ap, sym, ◌∙◌, arith, if◌then◌else◌}
use Rattle.std.specs.Prelude.{option_map, is_some, ◌==◌}
use Rattle.std.proofs.lemmas.Bool.{false≢true}
use Rattle.l2_types.specs.declared.channel.Kind.{Kind}
use Rattle.l2_types.specs.declared.channel.Kind.TheVariants as bearers
use Rattle.l2_types.specs.declared.side.Side.{Side}
use Rattle.rlc_pdu.specs.declared.constants.TheConstants.{UM_SHORT_WINDOW_SIZE, UM_LONG_WINDOW_SIZE}
use Rattle.bearer_types.specs.declared.config.BearerConfig.{BearerConfig}
use Rattle.air_record.specs.declared.record.Record.{Record}
use Rattle.air_text.specs.Groups.{Group}
use Rattle.journal_um.specs.declared.pieces.JoinedSdu.{JoinedSdu}
use Rattle.journal_um.specs.Laws.{HasMore}
use Rattle.journal_um.specs.UmFlow.{UmFlow, flow_of}
use Rattle.journal_um.specs.UmWindow.{width_of}
use Rattle.journal_um.proofs.Accounts.{um_accounts_are_true}
use Rattle.journal_flows.specs.UmPdus.{UmFlowEvent, come_in}
use Rattle.journal_flows.specs.Gathering.{MayTake}
use Rattle.journal_flows.specs.FlowsTold.{um_flows_told, um_flows_within}
use Rattle.journal_flows.specs.Accounts.{Keeping, um_flow_at, after_records, after_group}
use Rattle.journal_flows.specs.Accounts.{kept_within, all_kept}
use Rattle.journal_flows.specs.Laws.{Deed, GoesRecord, GoesLine, kept_by, untaken, taken_of, before_taking}
use Rattle.journal_flows.specs.Laws.{records_read, read_within, all_read, goes_up, um_flow_as, um_flow_by, bearer_on}
use Rattle.journal_flows.specs.Laws.{TakenGoesUp}
use Rattle.journal_flows.proofs.Groups.{um_flows_are_told}
use Rattle.journal_flows.proofs.Taking.{taking_is_free}

-- ---- what is kept as a journal is read

records_kept : (may_take : MayTake) (past : List Group) (before told : List Record) (deeds : List Deed)
    → kept_by (records_read may_take past before told deeds)
    ≡ after_records may_take past before told (kept_by deeds)
records_kept may_take past before [] deeds = refl
records_kept may_take past before (one ∷ told) deeds =
    records_kept may_take past (one ∷ before) told (GoesRecord (may_take past before one) one ∷ deeds)

kept_all : (may_take : MayTake) (past : List Group) → kept_by (all_read may_take past) ≡ all_kept may_take past
kept_all may_take [] = refl
kept_all may_take (now ∷ past) =
    ap after_group (records_kept may_take past [] now.events (GoesLine now.line ∷ all_read may_take past)
    ∙ ap (kept_within may_take now past) (kept_all may_take past))

kept_in : (may_take : MayTake) (now : Group) (past : List Group)
    → kept_by (read_within may_take now past (all_read may_take past))
    ≡ kept_within may_take now past (all_kept may_take past)
kept_in may_take now past =
    records_kept may_take past [] now.events (GoesLine now.line ∷ all_read may_take past)
    ∙ ap (kept_within may_take now past) (kept_all may_take past)

-- ---- one flow

abbrev ready_in : Option UmFlow → List JoinedSdu
ready_in None = []
ready_in (Some f) = f.joiner.ready

with_more : (taken : List JoinedSdu) (o : Option UmFlow) (f : UmFlow) → option_map (before_taking taken) o ≡ Some f
    → HasMore taken f.joiner.ready
with_more taken None f is = absurd (false≢true (ap (λ (o : Option UmFlow). is_some o) is))
with_more taken (Some g) f is = record { more = g.joiner.ready; is = sym (ap ready_in is) }

wide : (bits : ℕ) → 0 < width_of bits
wide bits = by (bits == 5)
  where
    by : (b : Bool) → 0 < (if b then UM_SHORT_WINDOW_SIZE else UM_LONG_WINDOW_SIZE)
    by true = omega arith
    by false = omega arith

of_kind : (kind : Kind) (config : BearerConfig) (es : List UmFlowEvent) → kind ≡ bearers.Um
    → um_flow_as kind config es
    ≡ Some (flow_of (width_of config.rlc_bits) (2 ^ config.pdcp_bits) (come_in es))
of_kind kind config es is = ap (λ (k : Kind). um_flow_as k config es) is

goes : (deeds : List Deed) (side : Side) (lcid : ℕ) (k : Keeping) (bearer : Option BearerConfig)
    (es : List UmFlowEvent) (config : BearerConfig) → lcid ≤ 10 → bearer ≡ Some config → config.kind ≡ bearers.Um
    → kept_by (untaken deeds) ≡ k → um_flow_at side lcid k.journal.flows ≡ um_flow_by bearer es
    → HasMore (taken_of side lcid deeds) (goes_up config es)
goes deeds side lcid k bearer es config low known um is told =
    let m = with_more (taken_of side lcid deeds) (um_flow_at side lcid (kept_by deeds).journal.flows)
    (flow_of (width_of config.rlc_bits) (2 ^ config.pdcp_bits) (come_in es))
    ((taking_is_free deeds side lcid low).unacked
    ∙ ap (λ (k : Keeping). um_flow_at side lcid k.journal.flows) is ∙ told
    ∙ ap (λ (b : Option BearerConfig). um_flow_by b es) known ∙ of_kind config.kind config es um) in
    let handed = (um_accounts_are_true (width_of config.rlc_bits) (2 ^ config.pdcp_bits) (come_in es)
    (wide config.rlc_bits)).handed in
    record { more = m.more; is = sym handed ∙ m.is }

pub taken_goes_up : TakenGoesUp
taken_goes_up may_take past side lcid deeds low = record {
  behind = λ config known um same. goes deeds side lcid (all_kept may_take past) (bearer_on lcid past)
      (um_flows_told may_take past side lcid) config low known um
      (ap kept_by same ∙ kept_all may_take past) (um_flows_are_told may_take past side lcid low).behind;
  within = λ now config known um same. goes deeds side lcid
      (kept_within may_take now past (all_kept may_take past)) (bearer_on lcid (now ∷ past))
      (um_flows_within may_take now past side lcid) config low known um
      (ap kept_by same ∙ kept_in may_take now past) ((um_flows_are_told may_take past side lcid low).within now);
}
