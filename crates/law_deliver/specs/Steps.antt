-- Two ends of a bearer (TS 36.322 4.2.1), and steps one after the other.
use Rattle.std.specs.Prelude.{List, [], ◌∷◌}
use Rattle.l2_types.specs.declared.side.Side.{Side}
use Rattle.l2_types.specs.declared.side.Side.TheVariants.{Nb, Ue}

-- what stands at both ends
pub record Ends (E : Type 0) : Type 0 where
  pub near : E
  pub far : E

-- the near end is that of the base station
abbrev pub end_at : {E : Type 0} → Side → Ends E → E
end_at Nb p = p.near
end_at Ue p = p.far

abbrev pub with_end : {E : Type 0} → Side → Ends E → E → Ends E
with_end Nb p e = record p { near = e }
with_end Ue p e = record p { far = e }

-- what stands behind steps of any kind
abbrev pub walked : {W S : Type 0} → (W → S → W) → List S → W → W
walked happens [] w = w
walked happens (s ∷ ss) w = walked happens ss (happens w s)

-- each of them meets what is asked of it where it happens
abbrev pub AllGiven : {W S : Type 0} → (W → S → W) → (W → S → Type 0) → W → List S → Type 0
AllGiven happens IsGiven w [] = Unit {0}
AllGiven happens IsGiven w (s ∷ ss) = IsGiven w s × AllGiven happens IsGiven (happens w s) ss
