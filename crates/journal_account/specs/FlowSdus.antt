-- The account of the SDUs of an acknowledged flow in a life, as it is kept: the ends of those that
-- aren't in sequence (docs/laws/ACCOUNT.md; TS 36.322 5.1.3.2.3).
use Rattle.std.specs.Prelude.{ℕ, ◌+◌, if◌then◌else◌, List, [], ◌∷◌, ◌++◌, drop, nat_le}

-- so many are in sequence; the others end behind these places of the stream; so many octets were
-- taken in all
pub record FlowSdus : Type 0 where
  pub sequenced : ℕ
  pub ends : List ℕ
  pub taken : ℕ

abbrev pub no_sdus : FlowSdus
no_sdus = record { sequenced = 0; ends = []; taken = 0 }

abbrev pub with_sdu : ℕ → FlowSdus → FlowSdus
with_sdu size s = record s {
  ends = s.ends ++ (s.taken + size) ∷ [];
  taken = s.taken + size;
}

-- how many ends lie at a place or before it
abbrev pub ends_by : ℕ → List ℕ → ℕ
ends_by place [] = 0
ends_by place (end ∷ ends) = if nat_le end place then ends_by place ends + 1 else 0

-- all octets before a place have come
abbrev pub sequenced_to : ℕ → FlowSdus → FlowSdus
sequenced_to place s = record s {
  sequenced = s.sequenced + ends_by place s.ends;
  ends = drop (ends_by place s.ends) s.ends;
}
