-- How the PDUs of a channel are read behind the groups of a journal: by the lines that add its bearers.
use Rattle.std.proofs.Common.{◌≡◌, ◌≤◌, ℕ, zero, suc, ◌==◌, Bool, List, [], ◌∷◌}
use Rattle.std.proofs.Common.{length}
use Rattle.std.proofs.Common.{replicate, Option, Some, None, refl, ap, sym, ◌∙◌, inl, inr, if◌then◌else◌, arith}
use Rattle.std.proofs.Common.{slice_index_or, slice_set}
use Rattle.std.proofs.lemmas.Bool.{cases_eq, eq-eqb, ne_eqb}
use Rattle.std.proofs.lemmas.List.{length-set, get_or-set_same, get_or-set_other}
use Rattle.l2_types.specs.declared.channel.Kind.{Kind}
use Rattle.l2_types.specs.declared.channel.Kind.TheVariants as bearers
use Rattle.pdcp_pdu.specs.declared.pdu.PdcpKind.TheVariants as pdcp
use Rattle.bearer_types.specs.declared.config.BearerConfig.{BearerConfig}
use Rattle.air_record.specs.declared.line.Line.{Line}
use Rattle.air_record.specs.declared.line.Line.TheVariants as lines
use Rattle.air_record.specs.declared.record.Record.{Record}
use Rattle.air_text.specs.Groups.{Group}
use Rattle.pdu_show.specs.declared.kinds.Layout.{Layout}
use Rattle.pdu_show.specs.declared.kinds.Layout.TheVariants as layouts
use Rattle.pdu_show.specs.Kinds.{layout_of}
use Rattle.promises.specs.Blocks.{kinds, with_bearer}
use Rattle.promises.specs.Configs.{config_of}

abbrev pub layout_by : Option BearerConfig → Option Layout
layout_by None = None
layout_by (Some c) = Some (layout_of c.kind c.rlc_bits c.pdcp_bits)

pub record AreKinds (past : List Group) : Type 0 where
  pub size : length (kinds past) ≡ 11
  pub is : (l : ℕ) → l ≤ 10 → slice_index_or (kinds past) l None ≡ layout_by (config_of l past)

abbrev nothing : Option Layout
nothing = None

none_there : (n l : ℕ) → slice_index_or (replicate n nothing) l nothing ≡ nothing
none_there zero l = refl
none_there (suc n) zero = refl
none_there (suc n) (suc l) = none_there n l

layout_at : (config : BearerConfig) (past : List Group) (l : ℕ) → AreKinds past → l ≤ 10
    → slice_index_or (with_bearer config (kinds past)) l None
    ≡ layout_by (if config.channel.lcid == l then Some config else config_of l past)
layout_at config past l k low = elim (cases_eq l config.channel.lcid) [
  | inl here ↦
      ap (λ (n : ℕ). slice_index_or
      (slice_set (kinds past) n (Some (layout_of config.kind config.rlc_bits config.pdcp_bits))) l None) (sym here)
      ∙ get_or-set_same (kinds past) l (Some (layout_of config.kind config.rlc_bits config.pdcp_bits)) None
      (omega (arith, k.size))
      ∙ ap (λ (b : Bool). layout_by (if b then Some config else config_of l past))
      (sym (eq-eqb config.channel.lcid l (sym here)))
  | inr apart ↦
      get_or-set_other (kinds past) config.channel.lcid l
      (Some (layout_of config.kind config.rlc_bits config.pdcp_bits)) None apart
      ∙ k.is l low
      ∙ ap (λ (b : Bool). layout_by (if b then Some config else config_of l past))
      (sym (ne_eqb config.channel.lcid l (λ same. apart (sym same))))
]

line_kinds : (number : ℕ) (line : Line) (events : List Record) (past : List Group) → AreKinds past
    → AreKinds (record { number = number; line = line; events = events } ∷ past)
line_kinds number (lines.Bearer config options) events past k = record {
  size =
      length-set (kinds past) config.channel.lcid (Some (layout_of config.kind config.rlc_bits config.pdcp_bits))
      ∙ k.size;
  is = λ l low. layout_at config past l k low;
}
line_kinds number line events past k = record { size = k.size; is = k.is }

pub are_kinds : (past : List Group) → AreKinds past
are_kinds [] = record { size = refl; is = λ l low. none_there 11 l }
are_kinds (g ∷ past) = line_kinds g.number g.line g.events past (are_kinds past)

pub acked_layout : (past : List Group) (l : ℕ) (config : BearerConfig) → l ≤ 10 → config_of l past ≡ Some config
    → config.kind ≡ bearers.Am
    → slice_index_or (kinds past) l None ≡ Some (layouts.Am (pdcp.Am config.pdcp_bits))
acked_layout past l config low is kind =
    (are_kinds past).is l low ∙ ap layout_by is
    ∙ ap (λ (k : Kind). Some (layout_of k config.rlc_bits config.pdcp_bits)) kind
