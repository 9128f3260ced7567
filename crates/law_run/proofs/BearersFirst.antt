-- A `bearer` line stands before all records, and is the only one of its channel.
use Rattle.std.proofs.Common.{◌≡◌, ℕ, false, Option, Some, None, is_some, List, [], ◌∷◌, refl, subst, ◌∙◌}
use Rattle.std.specs.List.{AllByRecursion}
use Rattle.air_link.specs.Link.{end_of}
use Rattle.air_record.specs.declared.line.Line.{Line}
use Rattle.air_record.specs.declared.line.Line.TheVariants as lines
use Rattle.air_run.specs.Rules.{refusal}
use Rattle.air_text.specs.Groups.{Group}
use Rattle.bearer_types.specs.declared.config.BearerConfig.{BearerConfig}
use Rattle.l2_node.specs.Finding.{has}
use Rattle.l2_types.specs.declared.side.Side.TheVariants.{Nb}
use Rattle.promises.specs.Bearers.{IsEarly, BeginsFirst, BearersBeginFirst}
use Rattle.promises.specs.Configs.{config_of}
use Rattle.law_run.specs.Order.{state_behind, IsRight, KeepsOrder}
use Rattle.law_run.proofs.Counts.{was_absent}
use Rattle.law_run.proofs.BearerWalk.{is_first}
use Rattle.law_run.proofs.DrainChannels.{bearers_are}
use Rattle.law_run.proofs.Early.{configures, unbegun, is_early}
use Rattle.law_run.proofs.Past.{link_behind}

-- as long as all lines configured, none leaves records
all_early : (past : List Group) → KeepsOrder past → (state_behind past).rules.begun ≡ false
    → AllByRecursion IsEarly past
all_early [] order early = tt
all_early (g ∷ past) (right, order) early =
    let r = (state_behind past).rules in
    let before = unbegun g.line r early in
    let e = is_early past order before in
    let s = configures g.line r (link_behind past) right.in_range early e.rest in (
      record { rests = s.part_is; leaves_none = right.events_are ∙ s.silent ∙ e.silent },
      all_early past order before,
    )

-- a channel without a bearer has had no line
none_some : (o : Option BearerConfig) → is_some o ≡ false → o ≡ None
none_some None e = refl
none_some (Some config) e = absurd cc

unconfigured : (l : ℕ) (past : List Group) → KeepsOrder past → has l (end_of Nb (link_behind past)).bearers ≡ false
    → config_of l past ≡ None
unconfigured l past order absent = none_some (config_of l past) (bearers_are Nb l past order ∙ absent)

begins_first : (past : List Group) (g : Group) (line : Line) → g.line ≡ line → IsRight past g → KeepsOrder past
    → BeginsFirst line past
begins_first past g (lines.Bearer config options) is right order =
    let r = (state_behind past).rules in
    let k = link_behind past in
    let allowed = subst (λ (line : Line). refusal line r k ≡ None) is right.allowed in
    record {
      only = unconfigured config.channel.lcid past order (was_absent Nb config options r k allowed);
      early = all_early past order (is_first config options r k allowed).early;
    }
begins_first past g line is right order = tt

pub bearers_begin_first : (past : List Group) → KeepsOrder past → BearersBeginFirst past
bearers_begin_first [] order = tt
bearers_begin_first (g ∷ past) (right, order) =
    (begins_first past g g.line refl right order, bearers_begin_first past order)
