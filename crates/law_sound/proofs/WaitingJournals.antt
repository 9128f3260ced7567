-- Behind all groups of a journal whose script forges no block, as many SDUs wait by what is gathered of a channel with
-- signalling bearers as at its ends, and what is gathered of its flows agrees with what is read.
use Rattle.std.proofs.Common.{◌≡◌, ℕ, false, List, [], ◌∷◌, ◌++◌, Some, append_assoc, refl, subst}
use Rattle.air_record.specs.declared.line.Line.{Line}
use Rattle.air_record.specs.declared.line.Line.TheVariants as lines
use Rattle.air_text.specs.Groups.{Group}
use Rattle.bearer_types.specs.declared.config.BearerConfig.{BearerConfig}
use Rattle.l2_types.specs.declared.channel.Kind.TheVariants as bearers
use Rattle.prioritise.proofs.ChannelLemmas.{both_false}
use Rattle.promises.specs.Configs.{config_of}
use Rattle.promises.specs.Delivery.{forges, is_forged}
use Rattle.law_run.specs.Order.{IsRight, KeepsOrder}
use Rattle.law_run.proofs.BearerWalk.{adds_one, behind_all as walk_all}
use Rattle.law_sound.proofs.WaitingGroups.{WaitsBehind, begins_waiting, stays_waiting, submits_waiting, moves_waiting}

-- ---- behind one more group

goes_by : (newer : List Group) (c : BearerConfig) (l : ℕ) (past : List Group) (g : Group) (line : Line)
    → IsRight past (record g { line = line }) → KeepsOrder past → adds_one l line ≡ false → forges line ≡ false
    → c.kind ≡ bearers.Srb → WaitsBehind (newer ++ record g { line = line } ∷ past) c l past
    → WaitsBehind (newer ++ record g { line = line } ∷ past) c l (record g { line = line } ∷ past)
goes_by newer c l past g (lines.Handover user rrc integrity) right order other own kind h =
    moves_waiting newer c l past g user rrc integrity right order kind h
goes_by newer c l past g (lines.Submit side lcid octets) right order other own kind h =
    submits_waiting newer c l past g side lcid octets right order h
goes_by newer c l past g line right order other own kind h =
    stays_waiting newer c l past (record g { line = line }) right order other own refl refl refl refl kind h

-- ---- behind all

record GoesOn (l : ℕ) (c : BearerConfig) (past : List Group) : Type 0 where
  goes : c.kind ≡ bearers.Srb → is_forged past ≡ false → (newer : List Group) → WaitsBehind (newer ++ past) c l past

all_go : (l : ℕ) (past : List Group) (c : BearerConfig) → KeepsOrder past → c.kind ≡ bearers.Srb
    → config_of l past ≡ Some c → GoesOn l c past
all_go =
    walk_all GoesOn (λ c. c.kind ≡ bearers.Srb)
    (λ past g c options right order kind.
    record { goes = λ same own newer. begins_waiting newer past g c options right order kind })
    (λ l c past g right order other config before.
    record {
      goes = λ kind own newer.
          let apart = both_false (forges g.line) (is_forged past) own in
          goes_by newer c l past g g.line right order other apart.0 kind
          (subst (λ (all : List Group). WaitsBehind all c l past) (append_assoc newer (g ∷ []) past)
          (before.goes kind apart.1 (newer ++ g ∷ [])));
    })

-- newer groups may follow
pub journals_wait : (newer : List Group) (l : ℕ) (past : List Group) (c : BearerConfig) → KeepsOrder past
    → c.kind ≡ bearers.Srb → config_of l past ≡ Some c → is_forged past ≡ false → WaitsBehind (newer ++ past) c l past
journals_wait newer l past c order kind config own = (all_go l past c order kind config).goes kind own newer
