-- Which blocks are refused, where and why (TS 36.321 5.11, 6.1.2): the subheaders are gone through
-- in their order, then their payloads.
use Rattle.std.specs.Prelude.{◌≡◌, ℕ, zero, suc, ◌+◌, ◌-◌, nat_lt, List, [], ◌∷◌, Option, Some}
use Rattle.std.specs.Prelude.{None, if◌then◌else◌, length, drop}
use Rattle.mac_pdu.specs.declared.item.Direction.{Direction}
use Rattle.mac_pdu.specs.declared.fault.MacRefusal.{MacRefusal}
use Rattle.mac_pdu.specs.declared.subheader.Subheader.{Subheader}
use Rattle.mac_pdu.specs.declared.fault.MacWhy.{MacWhy}
use Rattle.mac_pdu.specs.declared.fault.MacWhy.TheVariants as why
use Rattle.mac_pdu.specs.declared.subheader.Stage.{Stage}
use Rattle.mac_pdu.specs.declared.subheader.Stage.TheVariants as stage
use Rattle.mac_pdu.specs.Subheaders.{subheader_at, payload_len, fault_of, after}

-- a subheader, if one was read, and those that follow it
abbrev pub then_subheaders : Option Subheader → (ℕ → List Subheader) → List Subheader
then_subheaders None next = []
then_subheaders (Some s) next = s ∷ (if s.more then next (s.size - 1) else [])

-- the subheaders up to the first that none follows, where the first `skip` octets are passed
unfoldable pub subheaders : Direction → ℕ → List ℕ → List Subheader
subheaders direction skip [] = []
subheaders direction (suc skip) (o ∷ os) = subheaders direction skip os
subheaders direction zero (o ∷ os) =
    then_subheaders (subheader_at direction (o ∷ os)) (λ skip. subheaders direction skip os)

-- a fault here, or one further on
abbrev pub or_fault : Option MacWhy → ℕ → Option MacRefusal → Option MacRefusal
or_fault (Some w) at rest = Some (record { at = at; why = w })
or_fault None at rest = rest

-- the first fault of subheaders that begin at a place of a block of so many octets
unfoldable pub first_fault : Stage → ℕ → ℕ → List Subheader → Option MacRefusal
first_fault st at total [] = Some (record { at = total; why = why.Short })
first_fault st at total (s ∷ ss) =
    or_fault (fault_of st s.kind s.more) at
    (if s.more then first_fault (after st s.kind) (at + s.size) total ss else None)

-- where the first subheader stands whose payload runs past the block
unfoldable pub overrun : ℕ → List Subheader → List ℕ → Option ℕ
overrun at [] body = None
overrun at (s ∷ ss) body =
    let n = payload_len s (length body) in
    if nat_lt (length body) n then Some at else overrun (at + s.size) ss (drop n body)

-- how many octets subheaders have
abbrev pub header_size : List Subheader → ℕ
header_size [] = 0
header_size (s ∷ ss) = s.size + header_size ss

-- the refusal of a payload that runs past the block
abbrev pub past : Option ℕ → Option MacRefusal
past (Some at) = Some (record { at = at; why = why.LengthPast })
past None = None

-- the first of two refusals
abbrev pub first_of : Option MacRefusal → Option MacRefusal → Option MacRefusal
first_of (Some refusal) next = Some refusal
first_of None next = next

-- why a block is refused: the first fault of its subheaders, then the first payload that runs past
-- the block
unfoldable pub refusal_of : Direction → List ℕ → Option MacRefusal
refusal_of direction octets =
    let ss = subheaders direction 0 octets in
    first_of (first_fault stage.Start 0 (length octets) ss)
    (past (overrun 0 ss (drop (header_size ss) octets)))

-- the block is refused so
abbrev pub MacRefused : Direction → List ℕ → MacRefusal → Type 0
MacRefused direction octets refusal = refusal_of direction octets ≡ Some refusal
