-- A channel from the line on in which its bearers come: what begins there, and goes on through each line since, holds
-- behind all groups.
use Rattle.std.proofs.Common.{◌≡◌, ◌≤◌, ◌<◌, ◌^◌, arith, ℕ, ◌==◌, Bool, true, false, if◌then◌else◌, Option, Some, None}
use Rattle.std.proofs.Common.{List, [], ◌∷◌, ap, refl, sym, subst, ◌∙◌}
use Rattle.air_link.specs.Lines.{bears}
use Rattle.air_link.specs.Link.{Link, end_of}
use Rattle.air_record.specs.declared.line.Line.{Line}
use Rattle.air_record.specs.declared.line.Line.TheVariants as lines
use Rattle.air_run.specs.Playing.{keys_or_none, acted}
use Rattle.air_run.specs.Rules.{Rules, is_taken, late, refused_if, rule_broken, refusal, accepted}
use Rattle.air_run.specs.declared.refusal.RunRefusal.TheVariants.{ConfiguredLate, BearerTwice}
use Rattle.air_text.specs.Groups.{Group}
use Rattle.bearer_types.specs.Configs.{IsConfig}
use Rattle.bearer_types.specs.declared.config.BearerConfig.{BearerConfig}
use Rattle.eps_sec.specs.declared.Keys.{Keys}
use Rattle.l2_types.specs.declared.side.Side.{Side}
use Rattle.l2_types.specs.declared.side.Side.TheVariants.{Nb, Ue}
use Rattle.law_deliver.specs.AmChannel.Delivery.{HasBegun}
use Rattle.prioritise.proofs.ChannelLemmas.{both_false}
use Rattle.promises.specs.Configs.{config_by, config_of}
use Rattle.law_run.specs.Order.{state_behind, IsRight, KeepsOrder}
use Rattle.law_run.proofs.Counts.{same_lcid}
use Rattle.law_run.proofs.Early.{IsEarly, is_early}
use Rattle.law_run.proofs.Keys.{not_first, not_second, no_cause}
use Rattle.law_run.proofs.Past.{link_behind}
use Rattle.law_run.proofs.TwoEnds.Lives.{channels_begin}

-- ---- a line that adds a bearer of the channel, and others

abbrev pub adds_one : ℕ → Line → Bool
adds_one lcid (lines.Bearer config options) = config.channel.lcid == lcid
adds_one lcid line = false

record AddsOne (lcid : ℕ) (line : Line) : Type 0 where
  config : BearerConfig
  options : _
  line_is : line ≡ lines.Bearer config options
  lcid_is : config.channel.lcid ≡ lcid

adds_it : (lcid : ℕ) (line : Line) → adds_one lcid line ≡ true → AddsOne lcid line
adds_it lcid (lines.Bearer config options) e =
    record { config = config; options = options; line_is = refl; lcid_is = same_lcid config.channel.lcid lcid e }
adds_it lcid line e = absurd cc

pub unchanged : (lcid : ℕ) (line : Line) (before : Option BearerConfig) (config : BearerConfig)
    → adds_one lcid line ≡ false → config_by lcid line before ≡ Some config → before ≡ Some config
unchanged lcid (lines.Bearer c options) before config free e =
    sym (ap (λ (b : Bool). if b then Some c else before) free) ∙ e
unchanged lcid line before config free e = e

-- ---- the line in which its bearers come

pub record IsFirst (c : BearerConfig) (r : Rules) (k : Link) : Type 0 where
  pub early : r.begun ≡ false
  pub none : is_taken c.channel.lcid k ≡ false

pub is_first : (c : BearerConfig) (options : _) (r : Rules) (k : Link) → refusal (lines.Bearer c options) r k ≡ None
    → IsFirst c r k
unfolding rule_broken
is_first c options r k allowed =
    let taken = refused_if (is_taken c.channel.lcid k) BearerTwice in
    let all = not_first (rule_broken (lines.Bearer c options) r k) _ allowed in
    record {
      early = no_cause r.begun ConfiguredLate (not_first (late r) _ all);
      none = no_cause (is_taken c.channel.lcid k) BearerTwice (not_first taken _ (not_second (late r) _ all));
    }

has_bits : (count : ℕ) → count ≤ 4294967295 → count < 2 ^ 32
has_bits count within = omega (arith, within)

pub at_each : (P : Side → Type 0) → P Nb → P Ue → (side : Side) → P side
at_each P nb ue Nb = nb
at_each P nb ue Ue = ue

-- they come at both ends, before anything is told
pub record Comes (c : BearerConfig) (past : List Group) : Type 0 where
  pub config : IsConfig c
  pub first : c.first < 2 ^ 32
  pub keys : Keys
  pub begun : (side : Side) → HasBegun side c.channel.lcid c keys (end_of side (link_behind past))
  pub early : IsEarly past

pub comes : (past : List Group) (g : Group) (c : BearerConfig) (options : _)
    → IsRight past (record g { line = lines.Bearer c options }) → KeepsOrder past
    → Comes c (record g { line = lines.Bearer c options } ∷ past)
unfolding acted accepted bears
comes past g c options right order =
    let k = link_behind past in
    let keys = keys_or_none (state_behind past).rules.keys in
    let f = is_first c options (state_behind past).rules k right.allowed in
    let here = both_false _ _ f.none in
    let all : List Group = record g { line = lines.Bearer c options } ∷ past in
    let rest = (is_early past order f.early).rest in
    record {
      config = right.in_range;
      first = has_bits c.first right.count;
      keys = keys;
      begun =
          at_each (λ side. HasBegun side c.channel.lcid c keys (end_of side (link_behind all)))
          (channels_begin c keys k right.in_range rest Nb here.0)
          (channels_begin c keys k right.in_range rest Ue here.1);
      early = is_early all (right, order) f.early;
    }

-- ---- behind all groups

-- P, of each channel of whose bearers' configuration K holds
module _ (P : ℕ → BearerConfig → List Group → Type 0) (K : BearerConfig → Type 0)
    (begins : (past : List Group) (g : Group) (c : BearerConfig) (options : _)
    → IsRight past (record g { line = lines.Bearer c options }) → KeepsOrder past → K c
    → P c.channel.lcid c (record g { line = lines.Bearer c options } ∷ past))
    (goes_on : (l : ℕ) (c : BearerConfig) (past : List Group) (g : Group) → IsRight past g → KeepsOrder past
    → adds_one l g.line ≡ false → config_of l past ≡ Some c → P l c past → P l c (g ∷ past)) where
  holds_by : (b : Bool) (l : ℕ) (past : List Group) (g : Group) (c : BearerConfig) → adds_one l g.line ≡ b
      → IsRight past g → KeepsOrder past → K c → config_of l (g ∷ past) ≡ Some c
      → (config_of l past ≡ Some c → P l c past) → P l c (g ∷ past)
  holds_by false l past g c is right order kind e rest =
      let before = unchanged l g.line (config_of l past) c is e in
      goes_on l c past g right order is before (rest before)
  holds_by true l past g c is right order kind e rest =
      let a = adds_it l g.line is in
      let taken : config_by l (lines.Bearer a.config a.options) (config_of l past) ≡ Some a.config =
      ap (λ (b : Bool). if b then Some a.config else config_of l past) (sym (ap (adds_one l) a.line_is) ∙ is) in
      let some : Some a.config ≡ Some c =
      sym taken ∙ ap (λ (line : Line). config_by l line (config_of l past)) (sym a.line_is) ∙ e in
      let same : a.config ≡ c = cc in
      let here = subst (λ (line : Line). IsRight past (record g { line = line })) a.line_is right in
      subst (λ (d : BearerConfig). P l d (g ∷ past)) same
      (subst (λ (n : ℕ). P n a.config (g ∷ past)) a.lcid_is
      (subst (λ (line : Line). P a.config.channel.lcid a.config (record g { line = line } ∷ past)) (sym a.line_is)
      (begins past g a.config a.options here order (subst K (sym same) kind))))

  pub behind_all : (l : ℕ) (past : List Group) (c : BearerConfig) → KeepsOrder past → K c → config_of l past ≡ Some c
      → P l c past
  behind_all l [] c order kind e = absurd cc
  behind_all l (g ∷ past) c (right, order) kind e =
      holds_by (adds_one l g.line) l past g c refl right order kind e (behind_all l past c order kind)
