-- Behind all groups, on each channel with a bearer of acknowledged data, what is gathered of what PDCP gives RLC stands
-- beside both ends: so what RLC takes, its reports and its discards are right in the journal of any script that forges
-- no block.
use Rattle.std.proofs.Common.{◌≡◌, ◌≤◌, ℕ, Bool, true, false, List, [], ◌∷◌, ◌++◌}
use Rattle.std.proofs.Common.{Option, Some, None, refl, ap, sym, subst, ◌∙◌}
use Rattle.air_text.specs.Groups.{Group}
use Rattle.bearer_types.specs.declared.config.BearerConfig.{BearerConfig}
use Rattle.l2_types.specs.declared.channel.Kind.{Kind}
use Rattle.l2_types.specs.declared.channel.Kind.TheVariants as bearers
use Rattle.prioritise.proofs.ChannelLemmas.{both_false}
use Rattle.promises.specs.Configs.{config_of}
use Rattle.promises.specs.Delivery.{forges, is_forged}
use Rattle.journal_flows.specs.Laws.{bearer_on}
use Rattle.journal_given.specs.Giving.{after_line, all_given}
use Rattle.journal_given.specs.RightTakes.{AreRightRecords, TakesAreRight}
use Rattle.journal_given.specs.Supplies.{histories}
use Rattle.law_given.specs.BearerRecords.{IsRightOn, is_data, has_data}
use Rattle.law_given.proofs.BearerRecordsHistories.{right_by_records}
use Rattle.law_given.proofs.GivenRecords.{none_before, any_right}
use Rattle.law_run.specs.Order.{KeepsOrder}
use Rattle.law_sound.specs.ComingLaws.{TellsFlows}
use Rattle.law_sound.specs.RunLaws.{RunsTakeRightly}
use Rattle.law_sound.proofs.Delivering.{bearer_is}
use Rattle.law_sound.proofs.GivenBegins.{begins_given}
use Rattle.law_sound.proofs.GivenBetween.{GroupSaid, GoesBehind}
use Rattle.law_sound.proofs.GivenMoves.{moves_given}
use Rattle.law_sound.proofs.GivenStays.{stays_given}
use Rattle.law_sound.proofs.GivenSubmits.{submits_given}
use Rattle.law_sound.proofs.GroupWalk.{stands_behind}
use Rattle.law_sound.proofs.Groups.{tells_before}
use Rattle.law_sound.proofs.Running.{runs_tell_flows}

-- ---- behind all, where newer groups may follow

pub journals_go : (newer : List Group) (l : ℕ) (past : List Group) (c : BearerConfig) → KeepsOrder past
    → c.kind ≡ bearers.Am → config_of l past ≡ Some c → is_forged past ≡ false → TellsFlows past
    → GoesBehind (newer ++ past) c l past
journals_go = stands_behind GoesBehind
    (record { begins = begins_given; moves = moves_given; submits = submits_given; stays = stays_given })

-- ---- each group's are right

data_kind : (kind : Kind) → is_data kind ≡ true → kind ≡ bearers.Am
data_kind bearers.Am h = refl
data_kind kind h = cc

all_said : (now : Group) (past : List Group) → KeepsOrder (now ∷ past) → is_forged (now ∷ past) ≡ false
    → TellsFlows (now ∷ past) → (l : ℕ) → l ≤ 10 → (o : Option BearerConfig) → bearer_on l (now ∷ past) ≡ o
    → (d : Bool) → has_data o ≡ d → GroupSaid (now ∷ past) l (now ∷ past)
all_said now past order own told l low o is false none = λ before one rest are.
    subst (IsRightOn l one) (sym (none_before l now past before one low (ap has_data is ∙ none))) (any_right l one)
all_said now past order own told l low None is true data' = absurd cc
all_said now past order own told l low (Some c) is true data' =
    (journals_go [] l (now ∷ past) c order (data_kind c.kind data') (sym (bearer_is l (now ∷ past)) ∙ is) own told).said

group_takes : (now : Group) (past : List Group) → KeepsOrder (now ∷ past) → is_forged (now ∷ past) ≡ false
    → TellsFlows (now ∷ past)
    → AreRightRecords now.events (after_line histories now.line (all_given histories past))
group_takes now past order own told =
    right_by_records now past (λ l before one rest low are.
    all_said now past order own told l low (bearer_on l (now ∷ past)) refl _ refl before one rest are)

all_right : (past : List Group) → KeepsOrder past → is_forged past ≡ false → TellsFlows past → TakesAreRight past
all_right [] order own told = tt
all_right (g ∷ past) (right, order) own told = (
  group_takes g past (right, order) own told,
  all_right past order (both_false (forges g.line) (is_forged past) own).1 (tells_before g past told),
)

pub runs_take_rightly : RunsTakeRightly
runs_take_rightly whole octets played p own =
    all_right p.past p.order own (runs_tell_flows whole octets played p)
