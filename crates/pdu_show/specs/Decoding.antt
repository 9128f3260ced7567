-- The showing of an input (docs/formats/JOURNAL.md): what it knows between two lines, and what a
-- line does.
use Rattle.std.specs.Prelude.{◌≡◌, ℕ, ◌+◌, List, [], ◌∷◌, ◌++◌, length, Option, None, Some, Result}
use Rattle.std.specs.Prelude.{Ok, Err}
use Rattle.air_record.specs.Text.{texts_of}
use Rattle.air_text.specs.Words.{◌>>=◌}
use Rattle.air_text.specs.declared.fault.LineRefusal.{LineRefusal}
use Rattle.air_text.specs.declared.fault.LineFault.{LineFault}
use Rattle.air_text.specs.declared.fault.LineFault.TheVariants as faults
use Rattle.air_record.specs.declared.record.Record.{Record}
use Rattle.air_record.specs.declared.record.Record.TheVariants as records
use Rattle.pdu_show.specs.declared.kinds.Layout.{Layout}
use Rattle.pdu_show.specs.declared.entry.Entry.{Entry}
use Rattle.pdu_show.specs.declared.entry.Entry.TheVariants as entries
use Rattle.pdu_show.specs.Kinds.{none_known, with_kind}
use Rattle.pdu_show.specs.Show.{block_shown}
use Rattle.pdu_show.specs.Entries.{entry_of}

pub record Decoding : Type 0 where
  -- the bearers that are known
  pub kinds : List (Option Layout)
  -- the blocks so far
  pub blocks : ℕ

-- before the first line
abbrev pub undecoded : Decoding
undecoded = record { kinds = none_known; blocks = 0 }

-- what a line leaves: the state after it, and its records
pub record Decoded : Type 0 where
  pub state : Decoding
  pub journal : List Record

-- a bearer is known from then on, in place of one on its logical channel; a block is shown behind
-- its number
abbrev pub decoded : Decoding → Option Entry → Decoded
decoded d None = record { state = d; journal = [] }
decoded d (Some (entries.Bearer config)) =
    record {
      state =
          record d {
            kinds =
                with_kind d.kinds config.channel.lcid config.kind config.rlc_bits config.pdcp_bits;
          };
      journal = [];
    }
decoded d (Some (entries.Block direction octets)) = record {
  state = record d { blocks = d.blocks + 1 };
  journal = records.Shown (d.blocks + 1) direction (length octets)
      ∷ block_shown direction d.kinds octets;
}

abbrev pub decode_line : Decoding → List ℕ → Result Decoded LineRefusal
decode_line d text = entry_of text >>= λ entry. Ok (decoded d entry)

abbrev pub HasDecoded : Result Decoded LineRefusal → Decoding → List ℕ → List ℕ → Type 0
HasDecoded (Ok left) new out out' = (new ≡ left.state) × (out' ≡ out ++ texts_of left.journal)
HasDecoded (Err e) new out out' = ⊥

-- what a call leaves, by its answer
abbrev pub Decodes : Decoding → List ℕ → Decoding → List ℕ → List ℕ → Result Unit LineFault → Type 0
Decodes d text new out out' (Ok _) = HasDecoded (decode_line d text) new out out'
Decodes d text new out out' (Err (faults.Refused e)) =
    (decode_line d text ≡ Err e) × (new ≡ d) × (out' ≡ out)
Decodes d text new out out' (Err faults.NoMemory) = Unit {0}
