-- Behind all groups, on each channel whose bearers aren't of acknowledged data, what is kept of the flows that both
-- sides send stands beside both ends, and each record of the newest group is right there.
use Rattle.std.proofs.Common.{◌≡◌, ◌≤◌, ℕ, Bool, true, false, if◌then◌else◌, List, [], ◌∷◌, Some, refl, ap, sym, subst}
use Rattle.std.proofs.Common.{◌∙◌, arith}
use Rattle.std.proofs.lemmas.Bool.{eqb-true}
use Rattle.air_record.specs.declared.line.Line.{Line}
use Rattle.air_record.specs.declared.line.Line.TheVariants as lines
use Rattle.air_text.specs.Groups.{Group}
use Rattle.bearer_types.specs.Configs.{IsChannelOf}
use Rattle.bearer_types.specs.declared.config.BearerConfig.{BearerConfig}
use Rattle.prioritise.proofs.ChannelLemmas.{both_false}
use Rattle.promises.specs.Configs.{config_by, config_of}
use Rattle.promises.specs.Delivery.{forges, is_forged}
use Rattle.law_run.specs.Order.{IsRight, KeepsOrder}
use Rattle.law_run.proofs.BearerWalk.{adds_one, behind_all as walk_all, unchanged}
use Rattle.law_run.proofs.Knowing.{has_place}
use Rattle.law_sound.proofs.GroupCarrying.{config_stays}
use Rattle.law_sound.proofs.QueueAirs.{air_behind}
use Rattle.law_sound.proofs.QueueAt.{QueuesBehind}
use Rattle.law_sound.proofs.QueueBearers.{IsOfQueue}
pub use Rattle.law_sound.proofs.QueueBases.{StartsOn, AreBasesLow, HasBase, HasBases, HasNoBase, has_no_bases}
use Rattle.law_sound.proofs.QueueLines.{begins_queued, stays_queued, submits_queued}
use Rattle.law_sound.proofs.QueueMoves.{moves_queued}

-- ---- the channel of a bearer's line

channel_of : (l : ℕ) (past : List Group) (c : BearerConfig) → KeepsOrder past → config_of l past ≡ Some c
    → IsChannelOf c.kind l
channel_of l past c order config =
    walk_all (λ l c past. IsChannelOf c.kind l) (λ c. Unit {0})
    (λ past g c options right order kind. right.in_range.lcid)
    (λ l c past g right order other before h. h) l past c order tt config

-- ---- behind one more group

module _ (l : ℕ) (c : BearerConfig) (past : List Group) (g : Group) (order : KeepsOrder past)
    (own : is_forged past ≡ false) (kind : IsOfQueue c.kind) (config : config_of l past ≡ Some c)
    (h : QueuesBehind l past) where
  goes_by : (line : Line) → IsRight past (record g { line = line }) → adds_one l line ≡ false → forges line ≡ false
      → HasBase l c (record g { line = line }) past → QueuesBehind l (record g { line = line } ∷ past)
  goes_by (lines.Handover user rrc integrity) right other mine base =
      let channel = channel_of l past c order config in
      let fits = has_place c.kind l channel in
      moves_queued l g past c user rrc integrity right order kind channel (omega (arith, fits)) config
      (air_behind l past c order own config) (base.ends config) h.queues
  goes_by (lines.Submit side lcid octets) right other mine base =
      submits_queued l side lcid octets g past right order (air_behind l past c order own config) (base.ends config)
      h.queues
  goes_by line right other mine base =
      let channel = channel_of l past c order config in
      let fits = has_place c.kind l channel in
      let low : l ≤ 10 = omega (arith, fits) in
      let now : Group = record g { line = line } in
      let x : StartsOn l low now past refl base.Base = base.starts low refl other refl config in
      stays_queued l low now past refl right order other mine refl refl base.Base x.base x.sent x.air x.on x.new x.there
      x.stands (base.ends (config_stays l line (config_of l past) other ∙ config)) h.queues

-- ---- the line in which its bearers come

begins_by : (l : ℕ) (c : BearerConfig) (past : List Group) (g : Group) → KeepsOrder past → IsOfQueue c.kind
    → (line : Line) → IsRight past (record g { line = line }) → adds_one l line ≡ true
    → config_by l line (config_of l past) ≡ Some c → AreBasesLow l (record g { line = line }) past
    → QueuesBehind l (record g { line = line } ∷ past)
begins_by l c past g order kind (lines.Bearer config options) right here is low =
    let now : Group = record g { line = lines.Bearer config options } in
    let same : config.channel.lcid ≡ l = eqb-true config.channel.lcid l here in
    let taken : Some config ≡ Some c =
    sym (ap (λ (b : Bool). if b then Some config else config_of l past) here) ∙ is in
    let own : config ≡ c = cc in
    subst (λ (n : ℕ). QueuesBehind n (now ∷ past)) same
    (begins_queued g past config options right order (subst (λ (d : BearerConfig). IsOfQueue d.kind) (sym own) kind)
    (subst (λ (n : ℕ). AreBasesLow n now past) (sym same) low))
begins_by l c past g order kind line right here is low = absurd cc

-- ---- behind all

earlier : (l : ℕ) (c : BearerConfig) (g : Group) (past : List Group) → HasBases l c (g ∷ past) → HasBases l c past
earlier l c g past bases =
    record { each = λ newer now before are. bases.each (g ∷ newer) now before (ap (λ (gs : List Group). g ∷ gs) are) }

module _ (l : ℕ) (c : BearerConfig) (g : Group) (past : List Group) (order : KeepsOrder (g ∷ past))
    (own : is_forged (g ∷ past) ≡ false) (kind : IsOfQueue c.kind) (config : config_of l (g ∷ past) ≡ Some c)
    (bases : HasBases l c (g ∷ past)) where
  behind_by : (b : Bool) → adds_one l g.line ≡ b
      → (is_forged past ≡ false → config_of l past ≡ Some c → QueuesBehind l past) → QueuesBehind l (g ∷ past)
  behind_by true here rest =
      begins_by l c past g order.1 kind g.line order.0 here config ((bases.each [] g past refl).ends config)
  behind_by false other rest =
      let apart = both_false (forges g.line) (is_forged past) own in
      let before = unchanged l g.line (config_of l past) c other config in
      goes_by l c past g order.1 apart.1 kind before (rest apart.1 before) g.line order.0 other apart.0
      (bases.each [] g past refl)

pub queues_behind : (l : ℕ) (past : List Group) (c : BearerConfig) → KeepsOrder past → is_forged past ≡ false
    → IsOfQueue c.kind → config_of l past ≡ Some c → HasBases l c past → QueuesBehind l past
queues_behind l [] c order own kind config bases = absurd cc
queues_behind l (g ∷ past) c order own kind config bases =
    behind_by l c g past order own kind config bases (adds_one l g.line) refl
    (λ own' before. queues_behind l past c order.1 own' kind before (earlier l c g past bases))
