-- Behind all groups, on each channel with a bearer of acknowledged data, what is kept of the flows that it sends stands
-- beside both ends: so each new block is right there.
use Rattle.std.proofs.Common.{◌≡◌, ℕ, false, List, [], ◌∷◌, ◌++◌}
use Rattle.std.proofs.Common.{Some}
use Rattle.air_record.specs.declared.line.Line.TheVariants as lines
use Rattle.air_text.specs.Groups.{Group}
use Rattle.bearer_types.specs.declared.config.BearerConfig.{BearerConfig}
use Rattle.l2_types.specs.declared.channel.Kind.TheVariants as bearers
use Rattle.promises.specs.Configs.{config_of}
use Rattle.promises.specs.Delivery.{is_forged}
use Rattle.law_run.specs.Order.{IsRight, KeepsOrder}
use Rattle.law_sound.specs.ComingLaws.{TellsFlows}
use Rattle.law_sound.proofs.GivenBegins.{begins_given}
use Rattle.law_sound.proofs.GivenMoves.{moves_given}
use Rattle.law_sound.proofs.GroupWalk.{stands_behind}
use Rattle.law_sound.proofs.SentBegins.{begins_sent}
use Rattle.law_sound.proofs.SentBetween.{SentSaid}
use Rattle.law_sound.proofs.SentEnds.{GoesSending}
use Rattle.law_sound.proofs.SentKeys.{keeps_channels}
use Rattle.law_sound.proofs.SentMoves.{moves_sent}
use Rattle.law_sound.proofs.SentStays.{stays_sent}
use Rattle.law_sound.proofs.SentSubmits.{submits_sent}

-- ---- behind one more group

begins_so : (all newer : List Group) (past : List Group) (g : Group) (c : BearerConfig) (options : List ℕ)
    → all ≡ newer ++ record g { line = lines.Bearer c options } ∷ past
    → IsRight past (record g { line = lines.Bearer c options }) → KeepsOrder past → c.kind ≡ bearers.Am
    → GoesSending all c c.channel.lcid (record g { line = lines.Bearer c options } ∷ past)
begins_so all newer past g c options is right order data' =
    let goes = begins_given all newer past g c options is right order data' in
    record {
      goes = goes;
      sends = begins_sent all newer past g c options is right order data' (keeps_channels past) goes;
    }

moves_so : (all newer : List Group) (c : BearerConfig) (l : ℕ) (past : List Group) (g : Group) (user rrc integrity : _)
    → all ≡ newer ++ record g { line = lines.Handover user rrc integrity } ∷ past
    → IsRight past (record g { line = lines.Handover user rrc integrity }) → KeepsOrder past
    → TellsFlows (record g { line = lines.Handover user rrc integrity } ∷ past) → c.kind ≡ bearers.Am
    → GoesSending all c l past
    → GoesSending all c l (record g { line = lines.Handover user rrc integrity } ∷ past)
moves_so all newer c l past g user rrc integrity is right order told data' h =
    let goes = moves_given all newer c l past g user rrc integrity is right order told data' h.goes in
    record {
      goes = goes;
      sends = moves_sent all newer c l past g user rrc integrity is right order told data' h.goes h.sends goes;
    }

-- ---- behind all

-- what is kept of the flows stands beside both ends, in the journal up to some groups
pub sending_behind : (newer : List Group) (l : ℕ) (past : List Group) (c : BearerConfig) → KeepsOrder past
    → c.kind ≡ bearers.Am → config_of l past ≡ Some c → is_forged past ≡ false → TellsFlows past
    → GoesSending (newer ++ past) c l past
sending_behind =
    stands_behind GoesSending
    (record { begins = begins_so; moves = moves_so; submits = submits_sent; stays = stays_sent })

-- and each new block is right
pub group_said : (now : Group) (past : List Group) (l : ℕ) (c : BearerConfig) → KeepsOrder (now ∷ past)
    → c.kind ≡ bearers.Am → config_of l (now ∷ past) ≡ Some c → is_forged (now ∷ past) ≡ false
    → TellsFlows (now ∷ past) → SentSaid l (now ∷ past)
group_said now past l c order kind config own told =
    (sending_behind [] l (now ∷ past) c order kind config own told).sends.said
