-- The text of entries is put one after another.
use Rattle.std.proofs.Common.{◌≡◌, ◌∙◌, ◌+◌, ◌<◌, ℕ, List, [], ◌∷◌, ◌++◌, refl, ap, sym, subst, append-nil, arith}
use Rattle.std.proofs.Common.{length, take, drop, slice_index, slice_index_or, slice_set}
use Rattle.std.proofs.lemmas.List.{append_assoc, drop_more, drop-set-lt, take_more_set}
use Rattle.std.specs.Prelude.{Option, Err}
use Rattle.l2_io.specs.Known.{after}
use Rattle.l2_io.proofs.Written.{front_longer}
use Rattle.line_player.specs.Streams.{WritesFront}
use Rattle.air_run.specs.Putting.{HasPut}
use Rattle.air_run.proofs.Putting.{put_both, put_front}
use Rattle.cell_run.specs.Acting.{PutsText}
use Rattle.cell_run.specs.Entries.{Entry, entry_text, texts_of}
use Rattle.cell_run.specs.Terminals.{Terminal, all_behind, all_entries, behind_tti, tti_entry}
use Rattle.cell_run.specs.declared.fault.CellFault.{CellFault}
use Rattle.cell_run.specs.declared.fault.CellFault.TheVariants as faults

-- the next one is put
pub entry-put : (all : List ℕ) (e : Entry) (es : List Entry) (w w' w'' : Option (List ℕ))
    → HasPut all (texts_of (e ∷ es)) w w' → w'' ≡ after w' (entry_text e) → HasPut all (texts_of es) w w''
entry-put all e es w w' w'' h put =
    put_both all (texts_of (e ∷ es)) (texts_of es) w w' w'' h
    (record { text = entry_text e; all_is = refl; written_is = put })

longer : (text left : List ℕ) (w w' : Option (List ℕ)) → WritesFront text w w' → WritesFront (text ++ left) w w'
longer text left w w' f = record {
  front = f.front;
  is_front = front_longer f.front text left f.is_front;
  written_is = f.written_is;
}

-- the next one is not put, or a front of it
pub entry-stops : (all : List ℕ) (e : Entry) (es : List Entry) (w w' w'' : Option (List ℕ)) (fault later : Type 0)
    (f : CellFault) → HasPut all (texts_of (e ∷ es)) w w' → (fault → later)
    → PutsText (entry_text e) w' w'' fault (Err f) → PutsText all w w'' later (Err f)
entry-stops all e es w w' w'' fault later (faults.Refused rule) h so p = absurd p
entry-stops all e es w w' w'' fault later faults.WriteFault h so p =
    (so p.0, put_front all (texts_of (e ∷ es)) w w' w'' h (longer (entry_text e) (texts_of es) w' w'' p.1))
entry-stops all e es w w' w'' fault later faults.NoMemory h so p =
    put_front all (texts_of (e ∷ es)) w w' w'' h (longer (entry_text e) (texts_of es) w' w'' p)

-- ---- the terminals' entries in a TTI

pub entries-next : (ups downs : List ℕ) (ts : List Terminal) (at : ℕ) (d : Terminal) → at < length ts
    → all_entries ups downs at (drop at ts)
    ≡ tti_entry at (slice_index ups at) (slice_index downs at) (slice_index_or ts at d)
    ∷ all_entries ups downs (at + 1) (drop (at + 1) ts)
entries-next ups downs ts at d inside = ap (all_entries ups downs at) (drop_more ts at d inside)

-- the entry of the next terminal is put
pub tti-put : (all ups downs : List ℕ) (ts : List Terminal) (at : ℕ) (d t : Terminal) (w w' w'' : Option (List ℕ))
    → at < length ts
    → HasPut all (texts_of (all_entries ups downs at (drop at ts))) w w'
    → w'' ≡ after w' (entry_text (tti_entry at (slice_index ups at) (slice_index downs at) (slice_index_or ts at d)))
    → HasPut all (texts_of (all_entries ups downs (at + 1) (drop (at + 1) (slice_set ts at t)))) w w''
tti-put all ups downs ts at d t w w' w'' inside h put =
    subst (λ (left : List Terminal). HasPut all (texts_of (all_entries ups downs (at + 1) left)) w w'')
    (sym (drop-set-lt (at + 1) ts at t (omega arith)))
    (entry-put all (tti_entry at (slice_index ups at) (slice_index downs at) (slice_index_or ts at d))
    (all_entries ups downs (at + 1) (drop (at + 1) ts)) w w' w''
    (subst (λ (es : List Entry). HasPut all (texts_of es) w w') (entries-next ups downs ts at d inside) h) put)

-- or it is not
pub tti-stops : (all ups downs : List ℕ) (ts : List Terminal) (at : ℕ) (d : Terminal) (w w' w'' : Option (List ℕ))
    (fault later : Type 0) (f : CellFault) → at < length ts
    → HasPut all (texts_of (all_entries ups downs at (drop at ts))) w w' → (fault → later)
    → PutsText (entry_text (tti_entry at (slice_index ups at) (slice_index downs at) (slice_index_or ts at d)))
    w' w'' fault (Err f) → PutsText all w w'' later (Err f)
tti-stops all ups downs ts at d w w' w'' fault later f inside h so p =
    entry-stops all (tti_entry at (slice_index ups at) (slice_index downs at) (slice_index_or ts at d))
    (all_entries ups downs (at + 1) (drop (at + 1) ts)) w w' w'' fault later f
    (subst (λ (es : List Entry). HasPut all (texts_of es) w w') (entries-next ups downs ts at d inside) h) so p

-- what the terminals are after their TTIs
pub behind-next : (ups downs : List ℕ) (ts : List Terminal) (at : ℕ) (d t : Terminal) → at < length ts
    → t ≡ behind_tti (slice_index ups at) (slice_index downs at) (slice_index_or ts at d)
    → take (at + 1) (slice_set ts at t) ++ all_behind ups downs (at + 1) (drop (at + 1) (slice_set ts at t))
    ≡ take at ts ++ all_behind ups downs at (drop at ts)
behind-next ups downs ts at d t inside is =
    ap (λ (left : List Terminal). take (at + 1) (slice_set ts at t) ++ all_behind ups downs (at + 1) left)
    (drop-set-lt (at + 1) ts at t (omega arith))
    ∙ ap (λ (front : List Terminal). front ++ all_behind ups downs (at + 1) (drop (at + 1) ts))
    (take_more_set ts at t inside)
    ∙ append_assoc (take at ts) (t ∷ []) (all_behind ups downs (at + 1) (drop (at + 1) ts))
    ∙ ap (λ (next : Terminal). take at ts ++ next ∷ all_behind ups downs (at + 1) (drop (at + 1) ts)) is
    ∙ ap (λ (left : List Terminal). take at ts ++ all_behind ups downs at left) (sym (drop_more ts at d inside))

-- all are put
pub all-put : (all left : List ℕ) (w w' : Option (List ℕ)) → left ≡ [] → HasPut all left w w' → w' ≡ after w all
all-put all left w w' none h =
    h.written_is ∙ ap (after w) (sym (append-nil h.text) ∙ ap (λ (t : List ℕ). h.text ++ t) (sym none) ∙ sym h.all_is)
