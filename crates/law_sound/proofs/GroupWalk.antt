-- On a channel with a bearer of acknowledged data: what stands behind the line of the bearer, and goes on through each
-- line of a script that forges no block, stands behind all groups.
use Rattle.std.proofs.Common.{◌≡◌, ℕ, false, List, [], ◌∷◌, ◌++◌, append_assoc, Some, refl, sym, ◌∙◌}
use Rattle.air_record.specs.declared.line.Line.{Line}
use Rattle.air_record.specs.declared.line.Line.TheVariants as lines
use Rattle.air_text.specs.Groups.{Group}
use Rattle.bearer_types.specs.declared.config.BearerConfig.{BearerConfig}
use Rattle.eps_sec.specs.declared.Key.{Key}
use Rattle.l2_types.specs.declared.channel.Kind.TheVariants as bearers
use Rattle.l2_types.specs.declared.side.Side.{Side}
use Rattle.prioritise.proofs.ChannelLemmas.{both_false}
use Rattle.promises.specs.Configs.{config_of}
use Rattle.promises.specs.Delivery.{forges, is_forged}
use Rattle.promises.specs.Parts.{is_handover}
use Rattle.law_run.specs.Order.{IsRight, KeepsOrder}
use Rattle.law_run.proofs.BearerWalk.{adds_one, behind_all as walk_all}
use Rattle.law_sound.specs.ComingLaws.{TellsFlows}
use Rattle.law_sound.proofs.GroupCarrying.{is_submission}
use Rattle.law_sound.proofs.Groups.{tells_before}

module _ (Stands : (all : List Group) (c : BearerConfig) (l : ℕ) (past : List Group) → Type 0) where
  pub record GoesOn : Type 0 where
    pub begins : (all newer : List Group) (past : List Group) (g : Group) (c : BearerConfig) (options : List ℕ)
        → all ≡ newer ++ record g { line = lines.Bearer c options } ∷ past
        → IsRight past (record g { line = lines.Bearer c options }) → KeepsOrder past → c.kind ≡ bearers.Am
        → Stands all c c.channel.lcid (record g { line = lines.Bearer c options } ∷ past)
    pub moves : (all newer : List Group) (c : BearerConfig) (l : ℕ) (past : List Group) (g : Group)
        (user rrc integrity : Key) → all ≡ newer ++ record g { line = lines.Handover user rrc integrity } ∷ past
        → IsRight past (record g { line = lines.Handover user rrc integrity }) → KeepsOrder past
        → TellsFlows (record g { line = lines.Handover user rrc integrity } ∷ past) → c.kind ≡ bearers.Am
        → Stands all c l past → Stands all c l (record g { line = lines.Handover user rrc integrity } ∷ past)
    pub submits : (all newer : List Group) (c : BearerConfig) (l : ℕ) (past : List Group) (g : Group) (side : Side)
        (lcid : ℕ) (octets : List ℕ) → all ≡ newer ++ record g { line = lines.Submit side lcid octets } ∷ past
        → IsRight past (record g { line = lines.Submit side lcid octets }) → KeepsOrder past
        → TellsFlows (record g { line = lines.Submit side lcid octets } ∷ past) → c.kind ≡ bearers.Am
        → Stands all c l past → Stands all c l (record g { line = lines.Submit side lcid octets } ∷ past)
    pub stays : (all newer : List Group) (c : BearerConfig) (l : ℕ) (past : List Group) (g : Group)
        → all ≡ newer ++ g ∷ past → IsRight past g → KeepsOrder past → adds_one l g.line ≡ false
        → forges g.line ≡ false → is_handover g.line ≡ false → is_submission g.line ≡ false → TellsFlows (g ∷ past)
        → c.kind ≡ bearers.Am → Stands all c l past → Stands all c l (g ∷ past)

  module _ (goes : GoesOn) where
    goes_by : (all newer : List Group) (c : BearerConfig) (l : ℕ) (past : List Group) (g : Group) (line : Line)
        → all ≡ newer ++ record g { line = line } ∷ past → IsRight past (record g { line = line }) → KeepsOrder past
        → adds_one l line ≡ false → forges line ≡ false → TellsFlows (record g { line = line } ∷ past)
        → c.kind ≡ bearers.Am → Stands all c l past → Stands all c l (record g { line = line } ∷ past)
    goes_by all newer c l past g (lines.Handover user rrc integrity) is right order other own told data' h =
        goes.moves all newer c l past g user rrc integrity is right order told data' h
    goes_by all newer c l past g (lines.Submit side lcid octets) is right order other own told data' h =
        goes.submits all newer c l past g side lcid octets is right order told data' h
    goes_by all newer c l past g line is right order other own told data' h =
        goes.stays all newer c l past (record g { line = line }) is right order other own refl refl told data' h

    record StandsBehind (all : List Group) (l : ℕ) (c : BearerConfig) (past : List Group) : Type 0 where
      stands : c.kind ≡ bearers.Am → is_forged past ≡ false → TellsFlows past → (newer : List Group)
          → all ≡ newer ++ past → Stands all c l past

    all_stand : (all : List Group) (l : ℕ) (past : List Group) (c : BearerConfig) → KeepsOrder past
        → c.kind ≡ bearers.Am → config_of l past ≡ Some c → StandsBehind all l c past
    all_stand all =
        walk_all (StandsBehind all) (λ c. c.kind ≡ bearers.Am)
        (λ past g c options right order kind.
        record { stands = λ data' own told newer is. goes.begins all newer past g c options is right order kind })
        (λ l c past g right order other config before.
        record {
          stands = λ data' own told newer is.
              let apart = both_false (forges g.line) (is_forged past) own in
              goes_by all newer c l past g g.line is right order other apart.0 told data'
              (before.stands data' apart.1 (tells_before g past told) (newer ++ g ∷ [])
              (is ∙ sym (append_assoc newer (g ∷ []) past)));
        })

    -- newer groups may follow
    pub stands_behind : (newer : List Group) (l : ℕ) (past : List Group) (c : BearerConfig) → KeepsOrder past
        → c.kind ≡ bearers.Am → config_of l past ≡ Some c → is_forged past ≡ false → TellsFlows past
        → Stands (newer ++ past) c l past
    stands_behind newer l past c order kind config own told =
        (all_stand (newer ++ past) l past c order kind config).stands kind own told newer refl
