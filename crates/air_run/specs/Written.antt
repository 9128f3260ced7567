-- The text of a line's records, and what they tell of losses on unacknowledged bearers and of the
-- terminal's buffers (docs/formats/JOURNAL.md).
use Rattle.std.specs.Prelude.{ℕ, List, [], ◌∷◌, Option}
use Rattle.l2_io.specs.Known.{after}
use Rattle.air_link.specs.Link.{Link}
use Rattle.air_record.specs.declared.line.Line.{Line}
use Rattle.air_record.specs.declared.line.Line.TheVariants as lines
use Rattle.air_record.specs.declared.record.Record.{Record}
use Rattle.air_record.specs.Text.{texts_of}
use Rattle.air_run.specs.Buffers.{Buffers, after_line, after_records}
use Rattle.bearer_types.specs.declared.config.BearerConfig.{BearerConfig}
use Rattle.bearer_types.specs.Sides.{heard_by}
use Rattle.l2_types.specs.declared.channel.Kind.{Kind}
use Rattle.l2_types.specs.declared.channel.Kind.TheVariants.{Um}
use Rattle.l2_types.specs.declared.side.Side.{Side}
use Rattle.pdu_show.specs.Show.{block_shown}
use Rattle.um_losses.specs.Losses.{Losses, with_bearer, seen, seen_forged, handed_over}

-- ---- losses

abbrev pub all_seen : List Record → Losses → Losses
all_seen [] w = w
all_seen (one ∷ more) w = all_seen more (seen one w)

abbrev pub all_forged : Side → List Record → Losses → Losses
all_forged side [] w = w
all_forged side (one ∷ more) w = all_forged side more (seen_forged side one w)

abbrev pub with_um : Kind → BearerConfig → Losses → Losses
with_um Um config w = with_bearer config.channel.lcid config.rlc_bits config.pdcp_bits w
with_um kind config w = w

-- what a line tells itself, before its records: a forged block leaves no records of what it carries
abbrev pub noticed : Line → Link → Losses → Losses
noticed (lines.Bearer config options) l w = with_um config.kind config w
noticed (lines.Handover user rrc integrity) l w = handed_over w
noticed (lines.Forge side octets) l w =
    all_forged side (block_shown (heard_by side) l.kinds octets) w
noticed line l w = w

-- ---- with the text

-- there may be none
pub record Journal : Type 0 where
  pub text : Option (List ℕ)
  pub losses : Losses
  pub buffers : Buffers

-- records follow
abbrev pub told : List Record → Journal → Journal
told records j = record {
  text = after j.text (texts_of records);
  losses = all_seen records j.losses;
  buffers = after_records records j.buffers;
}

abbrev pub noted : Line → Link → Journal → Journal
noted line l j = record j {
  losses = noticed line l j.losses;
  buffers = after_line line j.buffers;
}
