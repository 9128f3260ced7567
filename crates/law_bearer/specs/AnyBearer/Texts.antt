-- At a COUNT stands one text (TS 36.323 5.6, TS 33.401 B.1).
use Rattle.std.specs.Prelude.{◌≡◌, ℕ, List, [], ◌∷◌, Option, Some, None, slice_get}
use Rattle.bearer_types.specs.declared.BearerConfig.{BearerConfig}
use Rattle.eps_sec.specs.declared.Keys.{Keys}
use Rattle.l2_types.specs.declared.Kind.TheVariants.{Am}
use Rattle.l2_types.specs.declared.Side.{Side}
use Rattle.pdcp_sec.specs.Protection.{protection_of}
use Rattle.pdcp_tx.specs.State.{Offer}
use Rattle.bearer_pdcp.specs.Ends.{Ends, bearer_of, sends}
use Rattle.bearer.specs.Bearer.{flow_of}
use Rattle.law_bearer.specs.AnyBearer.Calls.{Call, Step, Calls, Restart, reached, ends}
use Rattle.law_bearer.specs.AnyBearer.Stream.{taken, all_taken}

-- no two texts are taken with one COUNT
abbrev pub AreOneText : List Offer → Type 0
AreOneText os = (i j count : ℕ) (a b : Offer) → slice_get os i ≡ Some a → slice_get os j ≡ Some b
    → a.count ≡ Some count → b.count ≡ Some count → a.text ≡ b.text

-- in a life, on a bearer of any kind
abbrev pub InALife : Type 0
InALife = (c : BearerConfig) (keys : Keys) (side : Side) (steps : List Step) (calls : List Call)
    → AreOneText (taken (reached c keys side steps) calls)

-- through all lives of an acknowledged data bearer, whatever their keys
abbrev pub ThroughLives : Type 0
ThroughLives = (c : BearerConfig) (keys : Keys) (side : Side) (steps : List Step) → c.kind ≡ Am
    → AreOneText (all_taken (flow_of c.kind c keys side) steps)

-- the keys of the life that steps come to
abbrev pub keys_after : Keys → List Step → Keys
keys_after keys [] = keys
keys_after keys (Calls c ∷ steps) = keys_after keys steps
keys_after keys (Restart next ∷ steps) = keys_after next steps

-- what a bearer sends is ciphered under the keys of its life, with its own BEARER and with
-- DIRECTION
abbrev pub IsUnder : Keys → ℕ → Side → Option Ends → Type 0
IsUnder keys lcid side None = Unit {0}
IsUnder keys lcid side (Some e) =
    e.tx.protection ≡ protection_of e.tx.kind keys (bearer_of lcid) (sends side)

abbrev pub UnderItsKeys : Type 0
UnderItsKeys = (c : BearerConfig) (keys : Keys) (side : Side) (steps : List Step)
    → IsUnder (keys_after keys steps) c.channel.lcid side (ends (reached c keys side steps))
