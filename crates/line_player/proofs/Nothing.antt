use Rattle.std.proofs.Common.{◌≡◌, List, ℕ, [], refl, ap, sym, append-nil}
use Rattle.std.specs.Prelude.{Option, None, Some, flat_map}
use Rattle.l2_io.specs.Known.{after}
use Rattle.line_player.specs.Streams.{WritesFront}
use Rattle.line_player.specs.Journal.{Outcome, Goes, Ends, Refuses}
use Rattle.line_player.specs.Plays.{HasPart}

pub after_none : (written : Option (List ℕ)) → written ≡ after written []
after_none None = refl
after_none (Some xs) = ap Some (sym (append-nil xs))

pub front_none : (text : List ℕ) (written : Option (List ℕ)) → WritesFront text written written
front_none text written = record {
  front = [];
  is_front = record { rest = text; joined = refl };
  written_is = after_none written;
}

pub part_nothing : {S E R : Type 0} (text_of : E → List ℕ) (line : Outcome S E R) (written : Option (List ℕ))
    → HasPart text_of line written written
part_nothing text_of (Goes t journal) written = front_none (flat_map text_of journal) written
part_nothing text_of (Ends t journal) written = front_none (flat_map text_of journal) written
part_nothing text_of (Refuses reason) written = refl

pub front_all : (text : List ℕ) (written : Option (List ℕ)) → WritesFront text written (after written text)
front_all text written = record {
  front = text;
  is_front = record { rest = []; joined = sym (append-nil text) };
  written_is = refl;
}
