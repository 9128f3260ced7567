-- Behind groups, and behind the first records of the newest one, the account of what a journal's PDUs tell and the
-- history that it tells agree.
use Rattle.std.proofs.Common.{◌≡◌, ◌≤◌, ℕ, false, List, [], ◌∷◌, ◌++◌, Some, refl, subst}
use Rattle.l2_types.specs.declared.channel.Kind.TheVariants as bearers
use Rattle.l2_types.specs.declared.side.Side.{Side}
use Rattle.bearer_types.specs.declared.config.BearerConfig.{BearerConfig}
use Rattle.air_record.specs.declared.line.Line.{Line}
use Rattle.air_record.specs.declared.line.Line.TheVariants as lines
use Rattle.air_record.specs.declared.record.Record.{Record}
use Rattle.air_text.specs.Groups.{Group}
use Rattle.law_words.specs.Arrivals.{account}
use Rattle.promises.specs.Arrival.{account_of, entries_in}
use Rattle.promises.specs.Blocks.{kinds}
use Rattle.promises.specs.Configs.{config_of}
use Rattle.promises.specs.Parts.{is_handover}
use Rattle.journal_flows.specs.Gathering.{Journal, MayTake, behind_line, within}
use Rattle.journal_flows.specs.FlowsTold.{Histories, histories}
use Rattle.law_run.proofs.BearerWalk.{adds_one, unchanged}
use Rattle.law_sound.specs.ComingLaws.{TellsFlows}
use Rattle.law_sound.proofs.Agreeing.{Agrees}
use Rattle.law_sound.proofs.Groups.{IsPlain, gathered, course, none_built, group_reads, group_holds}
use Rattle.law_sound.proofs.GroupKinds.{acked_layout}
use Rattle.law_sound.proofs.Groups.{other_flow, plain_begins, tells_before, all_behind}
use Rattle.law_sound.proofs.Records.{AreRead, records_go}
use Rattle.law_sound.proofs.Telling.{flow}

-- ---- behind groups

pub agrees_behind : (may_take : MayTake) (from : Side) (l : ℕ) (config : BearerConfig) (past : List Group) → l ≤ 10
    → TellsFlows past → config_of l past ≡ Some config → config.kind ≡ bearers.Am
    → Agrees (account_of config l from past) ((gathered may_take past).flows.acked from l)
agrees_behind may_take from l config past low h is kind =
    (all_behind may_take from l past low h config is kind).stands.agrees

-- ---- a line that is neither of a handover nor of the channel's bearer

plain_line : (l : ℕ) (line : Line) → is_handover line ≡ false → IsPlain l line
plain_line l (lines.Handover user rrc integrity) stays = absurd (let bad = stays in cc)
plain_line l line stays = record { stays = stays; stays_there = refl; none_ended = refl }

same_flow : (from : Side) (l : ℕ) (line : Line) (j : Journal Histories) → adds_one l line ≡ false
    → flow from l (behind_line histories line j).flows ≡ flow from l j.flows
same_flow from l (lines.Bearer config options) j other = other_flow from l config j.flows other
same_flow from l line j other = refl

-- ---- behind the first records of its group

pub agrees_within : (may_take : MayTake) (from : Side) (l : ℕ) (config : BearerConfig) (g : Group) (past : List Group)
    (told rest : List Record) → l ≤ 10 → TellsFlows (g ∷ past) → config_of l (g ∷ past) ≡ Some config
    → config.kind ≡ bearers.Am → is_handover g.line ≡ false → adds_one l g.line ≡ false → g.events ≡ told ++ rest
    → Agrees (account (entries_in config.pdcp_bits l from [] told) (account_of config l from past))
    ((within histories may_take (record { number = g.number; line = g.line; events = told }) past
    (gathered may_take past)).flows.acked from l)
agrees_within may_take from l config g past told rest low h is kind stays other parts =
    let a = account_of config l from past in
    let known = unchanged l g.line (config_of l past) config other is in
    let holds = group_holds may_take from l g past h in
    let before = all_behind may_take from l past low (tells_before g past h) config known kind in
    let begins = plain_begins may_take from l config g past kind is holds (plain_line l g.line stays)
    (same_flow from l g.line (gathered may_take past) other) before in
    let reads = group_reads may_take from l config g past a kind is holds before.under begins.numbers begins.own in
    let goes = records_go from l config.pdcp_bits (kinds (g ∷ past)) may_take past told rest [] a []
    (behind_line histories g.line (gathered may_take past)) none_built (course from l past)
    (acked_layout (g ∷ past) l config low is kind) begins.stands
    (subst (λ (ones : List Record).
    AreRead from l config.pdcp_bits (kinds (g ∷ past)) ones a [] none_built (course from l past)) parts reads) in
    goes.stands.agrees
