-- The entries of lines that form one tree have these lines.
use Rattle.std.proofs.Common.{◌≡◌, ◌∙◌, true, List, [], ◌∷◌, ◌++◌, map, refl, sym, ap, append-nil}
use Rattle.std.proofs.lemmas.List.{append_assoc}
use Rattle.dz_move.specs.Lines.{Evidence, Line, act, closed, chain, pair, spent, spent_pairs, open_wide, open_separant, open_large, Entry, with_line, grouped, entries_of, lines_of, lines_of_entry}
use Rattle.dz_tree.specs.Forms.{Node, end, move, fork, lines_in, is_end_with, IsOrdered, FormTree}

-- evidence that follows a line is that of its entry
pub evidence_grouped : (es : List Evidence) (lines : List Line) (more : List Entry) → grouped lines ≡ ([], more) → grouped (map pair es ++ lines) ≡ (es, more)
evidence_grouped [] lines more h = h
evidence_grouped (e ∷ es) lines more h = ap (with_line (pair e)) (evidence_grouped es lines more h)

-- no evidence waits before lines, and their entries have these lines
record AreEntries (lines : List Line) : Type 0 where
  entries : List Entry
  grouped_are : grouped lines ≡ ([], entries)
  lines_are : lines_of entries ≡ lines

-- an end with its evidence before lines
with_end : (line : Line) (es : List Evidence) (lines : List Line) → is_end_with es line ≡ true → AreEntries lines → AreEntries (lines_in (end line es) ++ lines)
with_end line es lines e h = record {
  entries = record { line = line; evidence = es } ∷ h.entries;
  grouped_are = ap (with_line line) (evidence_grouped es lines h.entries h.grouped_are) ∙ is_front line e;
  lines_are = ap (λ (ls : List Line). lines_of_entry (record { line = line; evidence = es }) ++ ls) h.lines_are;
}
  where
    is_front : (l : Line) → is_end_with es l ≡ true → with_line l (es, h.entries) ≡ ([], record { line = l; evidence = es } ∷ h.entries)
    is_front (act action) e = cc
    is_front closed e = refl
    is_front chain e = refl
    is_front (pair x) e = cc
    is_front (spent action) e = refl
    is_front spent_pairs e = refl
    is_front (open_wide action) e = refl
    is_front (open_separant i) e = refl
    is_front (open_large limit action) e = refl

-- the lines of a tree before lines
with_tree : (t : Node) (lines : List Line) → IsOrdered t → AreEntries lines → AreEntries (lines_in t ++ lines)
with_tree (end line es) lines o h = with_end line es lines o h
with_tree (move action t) lines o h =
    let k = with_tree t lines o.1 h in
    record {
      entries = record { line = act action; evidence = [] } ∷ k.entries;
      grouped_are = ap (with_line (act action)) k.grouped_are;
      lines_are = ap (λ (ls : List Line). act action ∷ ls) k.lines_are;
    }
with_tree (fork action t u) lines o h =
    let k = with_tree t (lines_in u ++ lines) o.1 (with_tree u lines o.2 h) in
    let same = append_assoc (lines_in t) (lines_in u) lines in
    record {
      entries = record { line = act action; evidence = [] } ∷ k.entries;
      grouped_are = ap (λ (ls : List Line). grouped (act action ∷ ls)) same ∙ ap (with_line (act action)) k.grouped_are;
      lines_are = ap (λ (ls : List Line). act action ∷ ls) k.lines_are ∙ ap (λ (ls : List Line). act action ∷ ls) (sym same);
    }

-- the entries of one tree have its lines
pub lines_of_entries : (lines : List Line) → FormTree lines → lines_of (entries_of lines) ≡ lines
lines_of_entries lines h =
    let k = with_tree h.tree [] h.ordered (record { entries = []; grouped_are = refl; lines_are = refl }) in
    let same : lines_in h.tree ++ [] ≡ lines = append-nil (lines_in h.tree) ∙ h.are in
    ap lines_of (ap entries_of (sym same) ∙ ap (λ (q : List Evidence × List Entry). q.1) k.grouped_are) ∙ k.lines_are ∙ same
