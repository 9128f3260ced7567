-- The options of a bearer line (docs/formats/SCRIPT.md): for each kind its names, and for each name
-- its numbers and its default.
use Rattle.std.specs.Prelude.{ℕ, ◌==◌, ◌||◌, nat_le, Bool, true, false, if◌then◌else◌, List, []}
use Rattle.std.specs.Prelude.{◌∷◌, codes, Option, None, Some, Result, Ok, Err}
use Rattle.std.specs.Str.{bytes_eq}
use Rattle.l2_types.specs.declared.channel.Kind.{Kind}
use Rattle.l2_types.specs.declared.channel.Kind.TheVariants.{Tm, Srb, Um, Am}
use Rattle.bearer_types.specs.declared.config.BearerConfig.{BearerConfig}
use Rattle.air_text.specs.declared.options.Name.{Name}
use Rattle.air_text.specs.declared.options.Name.TheVariants.{Prio, Pbr, Bsd, Lcg, Reorder, Sn, Psn}
use Rattle.air_text.specs.declared.options.Name.TheVariants.{PollPdu, PollByte, PollRetx, MaxRetx}
use Rattle.air_text.specs.declared.options.Name.TheVariants.{Prohibit, Count}
use Rattle.air_text.specs.declared.fault.LineRefusal.{LineRefusal}
use Rattle.air_text.specs.declared.fault.LineRefusal.TheVariants.{Word}
use Rattle.air_text.specs.Words.{◌>>=◌, before_equals, behind_equals}
use Rattle.air_text.specs.Fields.{number_of, limit_of, either_of}

-- a kind goes with a logical channel
abbrev pub goes : Kind → ℕ → Bool
goes Tm lcid = lcid == 0
goes Srb lcid = lcid == 1 || lcid == 2
goes Um lcid = nat_le 3 lcid
goes Am lcid = nat_le 3 lcid

abbrev pub priority_of : Kind → ℕ → ℕ
priority_of Tm lcid = 1
priority_of kind lcid = if lcid == 1 then 1 else if lcid == 2 then 3 else 8

abbrev pub group_of : Kind → ℕ
group_of Tm = 0
group_of Srb = 0
group_of Um = 3
group_of Am = 3

abbrev pub rlc_bits_of : Kind → ℕ
rlc_bits_of Tm = 0
rlc_bits_of Srb = 10
rlc_bits_of Um = 10
rlc_bits_of Am = 10

abbrev pub pdcp_bits_of : Kind → ℕ
pdcp_bits_of Tm = 0
pdcp_bits_of Srb = 5
pdcp_bits_of Um = 12
pdcp_bits_of Am = 12

-- a bearer without an option
unfoldable pub config_of : ℕ → Kind → BearerConfig
config_of lcid kind = record {
  channel = record {
    lcid = lcid;
    priority = priority_of kind lcid;
    pbr = None;
    bucket = 100;
    group = group_of kind;
  };
  kind = kind;
  rlc_bits = rlc_bits_of kind;
  pdcp_bits = pdcp_bits_of kind;
  first = 0;
  tx = record { poll_pdu = None; poll_byte = None; poll_retransmit = 45; max_retx = 4 };
  rx = record { reorder = 35; prohibit = None };
}

-- the words of the options
unfoldable pub name_of : List ℕ → Option Name
name_of text =
    if bytes_eq text (codes "prio") then Some Prio
    else if bytes_eq text (codes "pbr") then Some Pbr
    else if bytes_eq text (codes "bsd") then Some Bsd
    else if bytes_eq text (codes "lcg") then Some Lcg
    else if bytes_eq text (codes "reorder") then Some Reorder
    else if bytes_eq text (codes "sn") then Some Sn
    else if bytes_eq text (codes "psn") then Some Psn
    else if bytes_eq text (codes "pollpdu") then Some PollPdu
    else if bytes_eq text (codes "pollbyte") then Some PollByte
    else if bytes_eq text (codes "pollretx") then Some PollRetx
    else if bytes_eq text (codes "maxretx") then Some MaxRetx
    else if bytes_eq text (codes "prohibit") then Some Prohibit
    else if bytes_eq text (codes "count") then Some Count
    else None

-- the options that um alone has, and those that it hasn't
abbrev pub has_um : Name → Bool
has_um Prio = true
has_um Pbr = true
has_um Bsd = true
has_um Lcg = true
has_um Reorder = true
has_um Sn = true
has_um Psn = true
has_um name = false

abbrev pub has_srb : Name → Bool
has_srb Sn = false
has_srb Psn = false
has_srb Count = false
has_srb name = true

abbrev pub has_am : Name → Bool
has_am Sn = false
has_am name = true

-- the options of a kind
abbrev pub has : Kind → Name → Bool
has Tm name = false
has Srb name = has_srb name
has Um name = has_um name
has Am name = has_am name

-- the PDCP number's bits of um and of am
abbrev pub psn_of : Kind → List ℕ → Result ℕ LineRefusal
psn_of Um text = either_of 7 12 text
psn_of kind text = either_of 12 15 text

-- an option read into a configuration
abbrev pub option_of : BearerConfig → Name → List ℕ → Result BearerConfig LineRefusal
option_of c Prio text =
    number_of 1 16 text >>= λ n. Ok (record c { channel = record c.channel { priority = n } })
option_of c Pbr text =
    limit_of (codes "inf") 0 65535 text >>= λ n. Ok
    (record c { channel = record c.channel { pbr = n } })
option_of c Bsd text =
    number_of 1 1000 text >>= λ n. Ok (record c { channel = record c.channel { bucket = n } })
option_of c Lcg text =
    number_of 0 3 text >>= λ n. Ok (record c { channel = record c.channel { group = n } })
option_of c Reorder text =
    number_of 0 65535 text >>= λ n. Ok (record c { rx = record c.rx { reorder = n } })
option_of c Sn text = either_of 5 10 text >>= λ n. Ok (record c { rlc_bits = n })
option_of c Psn text = psn_of c.kind text >>= λ n. Ok (record c { pdcp_bits = n })
option_of c PollPdu text =
    limit_of (codes "inf") 1 65535 text >>= λ n. Ok
    (record c { tx = record c.tx { poll_pdu = n } })
option_of c PollByte text =
    limit_of (codes "inf") 1 4000000 text >>= λ n. Ok
    (record c { tx = record c.tx { poll_byte = n } })
option_of c PollRetx text =
    number_of 0 65535 text >>= λ n. Ok (record c { tx = record c.tx { poll_retransmit = n } })
option_of c MaxRetx text =
    number_of 1 32 text >>= λ n. Ok (record c { tx = record c.tx { max_retx = n } })
option_of c Prohibit text =
    limit_of (codes "off") 0 65535 text >>= λ n. Ok
    (record c { rx = record c.rx { prohibit = n } })
option_of c Count text = number_of 0 4294967295 text >>= λ n. Ok (record c { first = n })

abbrev pub named_option : BearerConfig → Option Name → List ℕ → Result BearerConfig LineRefusal
named_option c None value = Err Word
named_option c (Some name) value = if has c.kind name then option_of c name value else Err Word

abbrev pub cut_option : BearerConfig → List ℕ → Option (List ℕ) → Result BearerConfig LineRefusal
cut_option c name None = Err Word
cut_option c name (Some value) = named_option c (name_of name) value

-- a word NAME=VALUE
unfoldable pub word_option : BearerConfig → List ℕ → Result BearerConfig LineRefusal
word_option c word = cut_option c (before_equals word) (behind_equals word)

-- one word after the other
unfoldable pub options_of : BearerConfig → List (List ℕ) → Result BearerConfig LineRefusal
options_of c [] = Ok c
options_of c (w ∷ ws) = word_option c w >>= λ d. options_of d ws
