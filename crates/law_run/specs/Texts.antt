-- What both ends cipher over a whole script: under one key no two texts meet at one COUNT, BEARER
-- and DIRECTION, through all handovers (TS 36.323 5.6, TS 33.401 B.1).
use Rattle.std.specs.Prelude.{◌≡◌, ℕ, List, [], ◌∷◌, Option, Some, None}
use Rattle.air_link.specs.Link.{end_of}
use Rattle.air_text.specs.Groups.{Group, history}
use Rattle.bearer.specs.Bearer.{flow_of}
use Rattle.law_bearer.specs.AnyBearer.Calls.{Step, reached}
use Rattle.law_bearer.specs.AnyBearer.Ciphering.{ciphered, AllShareText, restarts}
use Rattle.law_bearer.specs.AnyBearer.Stream.{all_taken, counts}
use Rattle.bearer_types.specs.declared.config.BearerConfig.{BearerConfig}
use Rattle.eps_sec.specs.declared.Keys.{Keys}
use Rattle.l2_types.specs.declared.channel.Kind.{Kind}
use Rattle.l2_types.specs.declared.channel.Kind.TheVariants.{Tm, Srb, Um, Am}
use Rattle.l2_types.specs.declared.side.Side.{Side}
use Rattle.law_node.specs.Holding.{flow}
use Rattle.law_pdcp.specs.OneEnd.Lives.{Ciphering}
use Rattle.promises.specs.Counts.{counts_taken}
use Rattle.law_run.specs.Order.{state_behind}
use Rattle.promises.specs.Keys.{keys_given}
use Rattle.promises.specs.Configs.{config_of}

-- ---- what a side ciphers on a channel

-- its bearer has come from its configuration to where it stands by calls of its own, in lives each
-- under the keys that a line gave; in these it took SDUs with the COUNTs that the `take` records
-- tell, and it ciphered their texts
pub record AreTexts (side : Side) (lcid : ℕ) (past : List Group) (config : BearerConfig)
    (texts : List Ciphering) : Type 0 where
  pub keys : Keys
  pub steps : List Step
  pub flow_is : flow lcid (end_of side (state_behind past).link) ≡ reached config keys side steps
  pub lives_are : keys ∷ restarts steps ≡ keys_given past
  pub counts_are : counts (all_taken (flow_of config.kind config keys side) steps)
      ≡ counts_taken side lcid (history past)
  pub texts_are : texts ≡ ciphered (flow_of config.kind config keys side) steps

-- a transparent bearer ciphers nothing
abbrev pub AreTextsOf : Kind → Side → ℕ → List Group → BearerConfig → List Ciphering → Type 0
AreTextsOf Tm side lcid past config texts = texts ≡ []
AreTextsOf Srb side lcid past config texts = AreTexts side lcid past config texts
AreTextsOf Um side lcid past config texts = AreTexts side lcid past config texts
AreTextsOf Am side lcid past config texts = AreTexts side lcid past config texts

-- nor is anything ciphered where there is no bearer
abbrev pub AreCiphered : Side → ℕ → List Group → Option BearerConfig → List Ciphering → Type 0
AreCiphered side lcid past None texts = texts ≡ []
AreCiphered side lcid past (Some config) texts = AreTextsOf config.kind side lcid past config texts

-- no text of a side and channel meets another one, of these or of any other
pub record NoneMeet (past : List Group) : Type 0 where
  pub texts : Side → ℕ → List Ciphering
  pub are_ciphered : (side : Side) (lcid : ℕ)
      → AreCiphered side lcid past (config_of lcid past) (texts side lcid)
  pub one_text : (side other : Side) (lcid l : ℕ) → AllShareText (texts side lcid) (texts other l)
