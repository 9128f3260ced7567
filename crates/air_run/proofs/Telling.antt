-- Records are told one part after the other.
use Rattle.std.proofs.Common.{◌≡◌, ◌∙◌, List, [], ◌∷◌, ◌++◌, refl, ap, sym, append_assoc}
use Rattle.l2_io.proofs.Written.{after_after, after_nothing}
use Rattle.air_record.specs.declared.record.Record.{Record}
use Rattle.air_record.specs.Text.{text_of, texts_of}
use Rattle.air_run.specs.Buffers.{Buffers, after_record, after_records}
use Rattle.air_run.specs.Written.{Journal, all_seen, told}
use Rattle.um_losses.specs.Losses.{Losses, seen}

pub texts_both : (a b : List Record) → texts_of (a ++ b) ≡ texts_of a ++ texts_of b
texts_both [] b = refl
texts_both (r ∷ rs) b = ap (λ t. text_of r ++ t) (texts_both rs b)
    ∙ sym (append_assoc (text_of r) (texts_of rs) (texts_of b))

pub seen-both : (a b : List Record) (w : Losses) → all_seen (a ++ b) w ≡ all_seen b (all_seen a w)
seen-both [] b w = refl
seen-both (r ∷ rs) b w = seen-both rs b (seen r w)

pub after-both : (a b : List Record) (w : Buffers) → after_records (a ++ b) w ≡ after_records b (after_records a w)
after-both [] b w = refl
after-both (r ∷ rs) b w = after-both rs b (after_record r w)

pub told_both : (a b : List Record) (j : Journal) → told (a ++ b) j ≡ told b (told a j)
told_both a b j =
    rw (
      texts_both a b,
      seen-both a b j.losses,
      after-both a b j.buffers,
      after_after (texts_of a) (texts_of b) j.text,
    ) refl

pub told_none : (j : Journal) → told [] j ≡ j
told_none j = rw (after_nothing j.text) refl

pub told_one : (r : Record) (rs : List Record) (j : Journal) → told rs (told (r ∷ []) j) ≡ told (r ∷ rs) j
told_one r rs j = sym (told_both (r ∷ []) rs j)
