-- The ranges of a bearer's configuration, as a line of a script may give them (TS 36.331 6.3.2).
use Rattle.std.specs.Prelude.{◌≡◌, ◌⊎◌, ℕ, ◌≤◌, IfSome}
use Rattle.l2_types.specs.declared.channel.Kind.{Kind}
use Rattle.l2_types.specs.declared.channel.Kind.TheVariants.{Tm, Srb, Um, Am}
use Rattle.bearer_types.specs.declared.config.BearerConfig.{BearerConfig}

-- a kind goes with a logical channel: transparent 0, signalling 1 and 2, data 3 to 10
abbrev pub IsChannelOf : Kind → ℕ → Type 0
IsChannelOf Tm lcid = lcid ≡ 0
IsChannelOf Srb lcid = (1 ≤ lcid) × (lcid ≤ 2)
IsChannelOf Um lcid = (3 ≤ lcid) × (lcid ≤ 10)
IsChannelOf Am lcid = (3 ≤ lcid) × (lcid ≤ 10)

-- the bits of an RLC number
abbrev pub AreRlcBits : Kind → ℕ → Type 0
AreRlcBits Tm bits = bits ≡ 0
AreRlcBits Srb bits = bits ≡ 10
AreRlcBits Um bits = (bits ≡ 5) ⊎ (bits ≡ 10)
AreRlcBits Am bits = bits ≡ 10

-- the bits of a PDCP number
abbrev pub ArePdcpBits : Kind → ℕ → Type 0
ArePdcpBits Tm bits = bits ≡ 0
ArePdcpBits Srb bits = bits ≡ 5
ArePdcpBits Um bits = (bits ≡ 7) ⊎ (bits ≡ 12)
ArePdcpBits Am bits = (bits ≡ 12) ⊎ (bits ≡ 15)

-- a configuration in its ranges
pub record IsConfig (c : BearerConfig) : Type 0 where
  pub lcid : IsChannelOf c.kind c.channel.lcid
  pub rlc_bits : AreRlcBits c.kind c.rlc_bits
  pub pdcp_bits : ArePdcpBits c.kind c.pdcp_bits
  pub priority : (1 ≤ c.channel.priority) × (c.channel.priority ≤ 16)
  pub pbr : IfSome c.channel.pbr (λ n. n ≤ 65535)
  pub bucket : (1 ≤ c.channel.bucket) × (c.channel.bucket ≤ 1000)
  pub group : c.channel.group ≤ 3
  pub poll_pdu : IfSome c.tx.poll_pdu (λ n. (1 ≤ n) × (n ≤ 65535))
  pub poll_byte : IfSome c.tx.poll_byte (λ n. (1 ≤ n) × (n ≤ 4000000))
  pub poll_retransmit : c.tx.poll_retransmit ≤ 65535
  pub max_retx : (1 ≤ c.tx.max_retx) × (c.tx.max_retx ≤ 32)
  pub reorder : c.rx.reorder ≤ 65535
  pub prohibit : IfSome c.rx.prohibit (λ n. n ≤ 65535)
