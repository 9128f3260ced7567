-- A bearer without an option is in its ranges.
use Rattle.std.proofs.Common.{◌≡◌, ◌≤◌, ℕ, true, arith, refl, inl, inr}
use Rattle.l2_types.specs.declared.channel.Kind.{Kind}
use Rattle.l2_types.specs.declared.channel.Kind.TheVariants.{Tm, Srb, Um, Am}
use Rattle.bearer_types.specs.Configs.{IsConfig, IsChannelOf}
use Rattle.air_text.specs.Options.{goes, config_of, priority_of}

goes-channel : (kind : Kind) (lcid : ℕ) → goes kind lcid ≡ true → lcid ≤ 10 → IsChannelOf kind lcid
goes-channel Tm lcid is few = grind (arith, is)
goes-channel Srb lcid is few = grind (arith, is)
goes-channel Um lcid is few = grind (arith, is)
goes-channel Am lcid is few = grind (arith, is)

priority-least : (kind : Kind) (lcid : ℕ) → 1 ≤ priority_of kind lcid
priority-least Tm lcid = omega arith
priority-least Srb lcid = grind arith
priority-least Um lcid = grind arith
priority-least Am lcid = grind arith

priority-most : (kind : Kind) (lcid : ℕ) → priority_of kind lcid ≤ 16
priority-most Tm lcid = omega arith
priority-most Srb lcid = grind arith
priority-most Um lcid = grind arith
priority-most Am lcid = grind arith

pub plain_config : (lcid : ℕ) (kind : Kind) → goes kind lcid ≡ true → lcid ≤ 10 → IsConfig (config_of lcid kind)
unfolding config_of
plain_config lcid Tm is few = record {
  lcid = goes-channel Tm lcid is few;
  rlc_bits = refl;
  pdcp_bits = refl;
  priority = (priority-least Tm lcid, priority-most Tm lcid);
  pbr = tt;
  bucket = (omega arith, omega arith);
  group = omega arith;
  poll_pdu = tt;
  poll_byte = tt;
  poll_retransmit = omega arith;
  max_retx = (omega arith, omega arith);
  reorder = omega arith;
  prohibit = tt;
}
plain_config lcid Srb is few = record {
  lcid = goes-channel Srb lcid is few;
  rlc_bits = refl;
  pdcp_bits = refl;
  priority = (priority-least Srb lcid, priority-most Srb lcid);
  pbr = tt;
  bucket = (omega arith, omega arith);
  group = omega arith;
  poll_pdu = tt;
  poll_byte = tt;
  poll_retransmit = omega arith;
  max_retx = (omega arith, omega arith);
  reorder = omega arith;
  prohibit = tt;
}
plain_config lcid Um is few = record {
  lcid = goes-channel Um lcid is few;
  rlc_bits = inr refl;
  pdcp_bits = inr refl;
  priority = (priority-least Um lcid, priority-most Um lcid);
  pbr = tt;
  bucket = (omega arith, omega arith);
  group = omega arith;
  poll_pdu = tt;
  poll_byte = tt;
  poll_retransmit = omega arith;
  max_retx = (omega arith, omega arith);
  reorder = omega arith;
  prohibit = tt;
}
plain_config lcid Am is few = record {
  lcid = goes-channel Am lcid is few;
  rlc_bits = refl;
  pdcp_bits = inl refl;
  priority = (priority-least Am lcid, priority-most Am lcid);
  pbr = tt;
  bucket = (omega arith, omega arith);
  group = omega arith;
  poll_pdu = tt;
  poll_byte = tt;
  poll_retransmit = omega arith;
  max_retx = (omega arith, omega arith);
  reorder = omega arith;
  prohibit = tt;
}
