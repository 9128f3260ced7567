-- What a bearer ciphers through its lives, and when no two of its texts meet under one key at one
-- COUNT (TS 36.323 5.6, TS 33.401 B.1).
use Rattle.std.specs.Prelude.{◌≡◌, ◌⊎◌, ℕ, List, [], ◌∷◌, ◌++◌, map, Option, Some, None}
use Rattle.std.specs.List.{AllByRecursion}
use Rattle.bearer_types.specs.declared.BearerConfig.{BearerConfig}
use Rattle.eps_sec.specs.declared.Keys.{Keys}
use Rattle.l2_types.specs.declared.Kind.{Kind}
use Rattle.l2_types.specs.declared.Kind.TheVariants.{Tm, Srb, Um, Am}
use Rattle.l2_types.specs.declared.Side.{Side}
use Rattle.law_pdcp.specs.OneEnd.Lives.{Ciphering, ciphering_under}
use Rattle.pdcp_sec.specs.Protection.{Protection}
use Rattle.pdcp_tx.specs.State.{Offer}
use Rattle.bearer_pdcp.specs.Ends.{Ends, bearer_of, sends}
use Rattle.bearer.specs.declared.flow.Flow.{Flow}
use Rattle.bearer.specs.Bearer.{flow_of}
use Rattle.law_bearer.specs.AnyBearer.Calls.{Step, Calls, Restart, goes, ends}
use Rattle.law_bearer.specs.AnyBearer.Stream.{takes_in}
use Rattle.law_words.specs.Lists.{AreDistinct}

-- ---- the texts of a bearer, each with what it is ciphered with

abbrev pub ciphered_of : Protection → List Offer → List Ciphering
ciphered_of p [] = []
ciphered_of p (o ∷ os) = ciphering_under p o.count o.text ++ ciphered_of p os

abbrev pub ciphered_by : Option Ends → List Offer → List Ciphering
ciphered_by None os = []
ciphered_by (Some e) os = ciphered_of e.tx.protection os

-- through lives: each SDU that RLC takes
abbrev pub ciphered : Flow → List Step → List Ciphering
ciphered f [] = []
ciphered f (x ∷ xs) = ciphered_by (ends f) (takes_in f x) ++ ciphered (goes f x) xs

-- ---- one text

-- two that have key, BEARER, DIRECTION and COUNT in common have one text
abbrev pub ShareText : Ciphering → Ciphering → Type 0
ShareText a b =
    a.protection.key ≡ b.protection.key → a.protection.bearer ≡ b.protection.bearer
    → a.protection.direction ≡ b.protection.direction → a.count ≡ b.count
    → a.sdu ≡ b.sdu

abbrev pub AllShareText : List Ciphering → List Ciphering → Type 0
AllShareText xs ys = AllByRecursion (λ a. AllByRecursion (ShareText a) ys) xs

-- ---- the keys of lives

-- those of the lives that begin in steps
abbrev pub restarts : List Step → List Keys
restarts [] = []
restarts (Calls c ∷ steps) = restarts steps
restarts (Restart keys ∷ steps) = keys ∷ restarts steps

-- signalling has a key of its own (TS 33.401 6.2.3)
abbrev pub cipher_key : Kind → Keys → List ℕ
cipher_key Tm keys = keys.user.octets
cipher_key Srb keys = keys.rrc.octets
cipher_key Um keys = keys.user.octets
cipher_key Am keys = keys.user.octets

abbrev pub IsOneOf : List ℕ → List (List ℕ) → Type 0
IsOneOf key [] = ⊥
IsOneOf key (other ∷ keys) = (key ≡ other) ⊎ IsOneOf key keys

-- ---- the laws

-- a bearer ciphers under the keys of its lives, with its own BEARER and with the DIRECTION of its
-- side
pub record IsOfBearer (c : BearerConfig) (side : Side) (keys : List Keys) (x : Ciphering) : Type 0
  where
    pub key : IsOneOf x.protection.key (map (cipher_key c.kind) keys)
    pub bearer : x.protection.bearer ≡ bearer_of c.channel.lcid
    pub direction : x.protection.direction ≡ sends side

abbrev pub CiphersAsItself : Type 0
CiphersAsItself = (c : BearerConfig) (keys : Keys) (side : Side) (steps : List Step)
    → AllByRecursion (IsOfBearer c side (keys ∷ restarts steps))
    (ciphered (flow_of c.kind c keys side) steps)

-- where no two lives have the same key, no two texts meet
abbrev pub OneTextAKey : Type 0
OneTextAKey = (c : BearerConfig) (keys : Keys) (side : Side) (steps : List Step) → AreDistinct (map (cipher_key c.kind) (keys ∷ restarts steps))
    → AllShareText (ciphered (flow_of c.kind c keys side) steps)
    (ciphered (flow_of c.kind c keys side) steps)
