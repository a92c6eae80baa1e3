-- The bytes of a document are read as the document.
use Rattle.std.proofs.Common.{◌≡◌, ℕ, zero, suc, ◌+◌, ◌<◌, ◌≤◌, ◌==◌, nat_lt, nat_le, not, Bool, true, false, ◌&&◌, if◌then◌else◌, List, [], ◌∷◌, ◌++◌, length, map, Option, Some, None, Result, Ok, Err, refl, sym, ap, subst, ◌∙◌, append_assoc, append-nil, arith}
use Rattle.std.specs.Prelude.{codes}
use Rattle.std.specs.Fmt.{decimal}
use Rattle.std.specs.List.{AllByRecursion, list_all, slice_split}
use Rattle.std.specs.Str.{bytes_eq}
use Rattle.std.proofs.lemmas.Bool.Decides.{nat_tests, Decides-eqb}
use Rattle.std.proofs.lemmas.List.{take_at, drop_at, length_push}
use Rattle.std.proofs.lemmas.Slice.Eq.{bytes_eq-Decides}
use Rattle.dz_syntax.specs.Names.{Declared, IsDeclared}
use Rattle.dz_form.proofs.CutTexts.{lacks}
use Rattle.dz_form.proofs.TextTokens.{both_true}
use Rattle.dz_tree.specs.Counting.{form_trees, left_after, expected_after, lets_line, may_stand}
use Rattle.dz_tree.specs.Forms.{is_spelled}
use Rattle.dz_move.specs.Lines.{Line, act, closed, chain, pair, spent, spent_pairs, open_wide, open_separant, open_large, is_chain_line}
use Rattle.dz_cert.specs.declared.reader.Stage.{Stage}
use Rattle.dz_cert.specs.declared.reader.Stage.TheVariants.{Budget, Tree, Lines, Sections, End}
use Rattle.dz_cert.specs.CertFaults.{IsReadAs, ReadsDocument, tree_read}
use Rattle.dz_cert.specs.declared.document.Document.{Document}
use Rattle.dz_cert.specs.declared.reading.CertFault.{CertFault}
use Rattle.dz_cert.specs.declared.reading.CertFault.TheVariants.{Memory, BadLine, EndsEarly, BytesAfter}
use Rattle.dz_tree.specs.Trees as Trees
use Rattle.dz_tree.proofs.TreeForms.{one_tree}
use Rattle.dz_cert.specs.Documents.{AreTexts, ChainTexts, IsDocument, chain_count, chain_lines, document_lines, document_text, ended_lines, head_lines, is_text, is_text_byte, member_lines, numbered, section_lines, sections_from}
use Rattle.dz_cert.specs.LineTexts.{IsLineOf, line_text}
use Rattle.dz_cert.specs.Reading.{Reading, Fault, at_stage, behind, budget_taken, chain_begun, document_at, members_taken, section_taken, taken_at, with_equation, with_inequation, is_done, is_numbered, is_whole, line_read, read_from, tree_taken, unread}
use Rattle.dz_cert.proofs.DocumentsFound.{count_with, done_with, ok_same}
use Rattle.dz_cert.proofs.Found.{and_true}
use Rattle.dz_cert.proofs.LastChain.{with_last-append}
use Rattle.dz_cert.proofs.Lacking.{AllLack, decimal-lacks, feed_outside, lacks-append}
use Rattle.dz_cert.proofs.LineWords.{part_before}
use Rattle.dz_cert.proofs.LinesRead.{line_at-text, line_text-lacks}
use Rattle.dz_cert.proofs.Numbers.{number_at-decimal}

-- ---- lines one after the other
-- each line is read in turn, from one reading to another
abbrev pub Goes : Declared → Reading → List (List ℕ) → Reading → Type 0
Goes names r [] last = r ≡ last
Goes names r (line ∷ lines) last = (more : Reading) × (is_done r.stage ≡ false) × (line_read names r line ≡ Some more) × Goes names more lines last

-- lines behind lines
pub goes-append : (names : Declared) (r mid last : Reading) (a b : List (List ℕ)) → Goes names r a mid → Goes names mid b last → Goes names r (a ++ b) last
goes-append names r mid last [] b g h = subst (λ (x : Reading). Goes names x b last) (sym g) h
goes-append names r mid last (line ∷ a) b g h = (g.0, g.1, g.2, goes-append names g.0 mid last a b g.3 h)

-- lines that are read up to the last
pub goes_read : (names : Declared) (k : ℕ) (r last : Reading) (lines : List (List ℕ)) → Goes names r lines last → is_done last.stage ≡ true → read_from names k r (lines ++ [] ∷ []) ≡ done_with last
goes_read names k r last [] g done = let e : is_done r.stage ≡ true = ap (λ (x : Reading). is_done x.stage) g ∙ done in rw e (ap done_with g)
goes_read names k r last (line ∷ []) g done = rw (g.1, g.2) (goes_read names (suc k) g.0 last [] g.3 done)
goes_read names k r last (line ∷ next ∷ lines) g done = rw (g.1, g.2) (goes_read names (suc k) g.0 last (next ∷ lines) g.3 done)

-- the parts of lines that end with a line feed each
pub parts_are : (lines : List (List ℕ)) → AllLack 10 lines → slice_split (λ b. b == 10) (ended_lines lines) ≡ lines ++ [] ∷ []
parts_are [] all = refl
parts_are (line ∷ lines) all =
    ap (slice_split (λ (b : ℕ). b == 10)) (append_assoc line (codes "\n") (ended_lines lines)) ∙ part_before 10 line (ended_lines lines) all.0 ∙ ap (λ (ls : List (List ℕ)). line ∷ ls) (parts_are lines all.1)

-- ---- texts behind words
-- the text behind a word
behind_text : (front rest : List ℕ) → behind front (front ++ rest) ≡ Some rest
behind_text front rest =
    rw (take_at front rest (length front) refl, (bytes_eq-Decides front front).1 refl, drop_at front rest (length front) refl) refl

-- the number behind a word
numbered_text : (front : List ℕ) (n : ℕ) → is_numbered front n (front ++ decimal n) ≡ true
numbered_text front n = rw (behind_text front (decimal n)) ((bytes_eq-Decides (decimal n) (decimal n)).1 refl)

-- ---- the lines before the tree
-- the reading at the first line of the tree
abbrev pub started : ℕ → Reading
started budget = record unread { stage = Lines; budget = budget }

-- the line of the budget
budget_read : (names : Declared) (budget : ℕ) → budget ≤ 20000000 → line_read names (at_stage Budget unread) (numbered (codes "budget") budget) ≡ Some (record unread { stage = Tree; budget = budget })
unfolding line_read budget_taken
budget_read names budget le = rw (number_at-decimal 20000000 budget (omega arith) le) refl

-- the first line
certificate_read : (names : Declared) → line_read names unread (codes "blad certificate 1") ≡ Some (at_stage Budget unread)
unfolding line_read
certificate_read names = refl

-- the word before the tree
tree_read_on : (names : Declared) (budget : ℕ) → line_read names (record unread { stage = Tree; budget = budget }) (codes "tree") ≡ Some (started budget)
unfolding line_read
tree_read_on names budget = refl

-- the lines before the tree
pub head_goes : (names : Declared) (budget : ℕ) → budget ≤ 20000000 → Goes names unread (head_lines budget) (started budget)
head_goes names budget le =
    (at_stage Budget unread, refl, certificate_read names, (record unread { stage = Tree; budget = budget }, refl, budget_read names budget le, (started budget, refl, tree_read_on names budget, refl)))

-- ---- the lines of the tree
-- nothing but a pair stands behind a tree that is whole
zero_left : (n : ℕ) (b : Bool) → (n == 0) ≡ true → (b && nat_lt 0 n) ≡ true → ⊥
zero_left zero b e f = let g = (both_true b false f).1 in absurd (let bad : false ≡ true = g in cc)
zero_left (suc n) b e f = let same : suc n ≡ 0 = (Decides-eqb (suc n) 0).0 e in absurd (omega arith)

-- a line of the tree is not the line behind it
no_chains_line : (names : Declared) (r : Reading) (line : Line) → is_whole r ≡ true → may_stand r.left r.expected line ≡ true → is_numbered (codes "chains ") r.sections (line_text names line) ≡ false
unfolding line_text
no_chains_line names r (pair e) whole stands = refl
no_chains_line names r (act a) whole stands = absurd (zero_left r.left (lets_line r.expected) (both_true (r.left == 0) (lets_line r.expected) whole).0 stands)
no_chains_line names r closed whole stands = absurd (zero_left r.left (lets_line r.expected) (both_true (r.left == 0) (lets_line r.expected) whole).0 stands)
no_chains_line names r chain whole stands = absurd (zero_left r.left (lets_line r.expected) (both_true (r.left == 0) (lets_line r.expected) whole).0 stands)
no_chains_line names r (spent a) whole stands = absurd (zero_left r.left (lets_line r.expected) (both_true (r.left == 0) (lets_line r.expected) whole).0 stands)
no_chains_line names r spent_pairs whole stands = absurd (zero_left r.left (lets_line r.expected) (both_true (r.left == 0) (lets_line r.expected) whole).0 stands)
no_chains_line names r (open_wide a) whole stands = absurd (zero_left r.left (lets_line r.expected) (both_true (r.left == 0) (lets_line r.expected) whole).0 stands)
no_chains_line names r (open_separant i) whole stands = absurd (zero_left r.left (lets_line r.expected) (both_true (r.left == 0) (lets_line r.expected) whole).0 stands)
no_chains_line names r (open_large l a) whole stands = absurd (zero_left r.left (lets_line r.expected) (both_true (r.left == 0) (lets_line r.expected) whole).0 stands)

-- the reading with one line more of the tree
abbrev pub with_line : Reading → Line → Reading
with_line r line = record r { lines = r.lines ++ line ∷ []; left = left_after r.left line; expected = expected_after line; sections = r.sections + (if is_chain_line line then 1 else 0) }

-- the line behind the tree does not stand here, by whether the tree is whole
not_behind : (names : Declared) (r : Reading) (line : Line) (whole : Bool) → is_whole r ≡ whole → may_stand r.left r.expected line ≡ true → (whole && is_numbered (codes "chains ") r.sections (line_text names line)) ≡ false
not_behind names r line true e stands = no_chains_line names r line e stands
not_behind names r line false e stands = refl

-- a line of the tree
line_goes : (names : Declared) (r : Reading) (line : Line) → IsDeclared names → r.stage ≡ Lines → is_spelled line ≡ true → IsLineOf names line → may_stand r.left r.expected line ≡ true → line_read names r (line_text names line) ≡ Some (with_line r line)
unfolding line_read tree_taken
line_goes names r line d at spelled of stands =
    rw (at, not_behind names r line (is_whole r) refl stands, line_at-text names line d spelled of, stands) refl

-- the reading behind lines of the tree
pub record LinesGo (names : Declared) (r : Reading) (lines : List Line) : Type 0 where
  pub last : Reading
  pub goes : Goes names r (map (λ line. line_text names line) lines) last
  pub stage : last.stage ≡ Lines
  pub budget : last.budget ≡ r.budget
  pub lines_are : last.lines ≡ r.lines ++ lines
  pub whole : is_whole last ≡ true
  pub sections : last.sections ≡ r.sections + chain_count lines
  pub chains : last.chains ≡ r.chains

-- the stage before the end goes on
going : (r : Reading) (stage : Stage) → r.stage ≡ stage → is_done stage ≡ false → is_done r.stage ≡ false
going r stage at e = ap is_done at ∙ e

-- lines that form trees are read
pub lines_go : (names : Declared) (r : Reading) (lines : List Line) → IsDeclared names → r.stage ≡ Lines → form_trees r.left r.expected lines ≡ true → AllByRecursion (λ line. IsLineOf names line) lines → LinesGo names r lines
lines_go names r [] d at forms of = record { last = r; goes = refl; stage = at; budget = refl; lines_are = sym (append-nil r.lines); whole = forms; sections = omega arith; chains = refl }
lines_go names r (line ∷ lines) d at forms of =
    let f = both_true (is_spelled line && may_stand r.left r.expected line) (form_trees (left_after r.left line) (expected_after line) lines) forms in
    let g = both_true (is_spelled line) (may_stand r.left r.expected line) f.0 in
    let more = lines_go names (with_line r line) lines d at f.1 of.1 in
    let count : chain_count (line ∷ lines) ≡ (if is_chain_line line then 1 else 0) + chain_count lines = count_with line lines (is_chain_line line) refl in
    record {
      last = more.last;
      goes = (with_line r line, going r Lines at refl, line_goes names r line d at g.0 of.0 g.1, more.goes);
      stage = more.stage;
      budget = more.budget;
      lines_are = more.lines_are ∙ append_assoc r.lines (line ∷ []) lines;
      whole = more.whole;
      sections = more.sections ∙ regroup r.sections (if is_chain_line line then 1 else 0) (chain_count lines) ∙ ap (λ (n : ℕ). r.sections + n) (sym count);
      chains = more.chains;
    }
  where
    regroup : (a b c : ℕ) → a + b + c ≡ a + (b + c)
    regroup a b c = omega arith

-- the line behind the tree
chains_line_read : (names : Declared) (r : Reading) → r.stage ≡ Lines → is_whole r ≡ true → line_read names r (numbered (codes "chains") r.sections) ≡ Some (at_stage Sections r)
unfolding line_read tree_taken
chains_line_read names r at whole =
    let test : (is_whole r && is_numbered (codes "chains ") r.sections (numbered (codes "chains") r.sections)) ≡ true = and_true (is_whole r) (is_numbered (codes "chains ") r.sections (numbered (codes "chains") r.sections)) whole (numbered_text (codes "chains ") r.sections) in
    rw (at, test) refl

-- ---- the lines of the chains
-- a test that fails beside another
and_false : (a b : Bool) → b ≡ false → (a && b) ≡ false
and_false true b e = e
and_false false b e = refl

-- a line behind the tree
section_line : (names : Declared) (r : Reading) (text : List ℕ) → r.stage ≡ Sections → line_read names r text ≡ section_taken r text
unfolding line_read
section_line names r text at = ap (λ (s : Stage). taken_at names s r text) at

-- a member is neither the last line nor the first line of a chain
member_line_taken : (r : Reading) (text : List ℕ) → bytes_eq text (codes "end") ≡ false → is_numbered (codes "chain ") (length r.chains + 1) text ≡ false → section_taken r text ≡ members_taken r (behind (codes "equation ") text) (behind (codes "inequation ") text)
unfolding section_taken
member_line_taken r text no_end no_chain =
    rw (and_false (length r.chains == r.sections) (bytes_eq text (codes "end")) no_end, and_false (nat_lt (length r.chains) r.sections) (is_numbered (codes "chain ") (length r.chains + 1) text) no_chain) refl

-- a line that is neither the last line nor the first line of a chain
member_line_read : (names : Declared) (r : Reading) (text : List ℕ) (o p : Option (List ℕ)) → r.stage ≡ Sections → bytes_eq text (codes "end") ≡ false → is_numbered (codes "chain ") (length r.chains + 1) text ≡ false
    → behind (codes "equation ") text ≡ o → behind (codes "inequation ") text ≡ p → line_read names r text ≡ members_taken r o p
member_line_read names r text o p at no_end no_chain is_o is_p =
    section_line names r text at ∙ member_line_taken r text no_end no_chain ∙ ap (λ (x : Option (List ℕ)). members_taken r x (behind (codes "inequation ") text)) is_o ∙ ap (members_taken r o) is_p

-- the reading with other chains
abbrev pub with_chains : Reading → List ChainTexts → Reading
with_chains r chains = record r { chains = chains }

-- an equation of the last chain
equation_goes : (names : Declared) (r : Reading) (done : List ChainTexts) (es : List (List ℕ)) (t : List ℕ) → r.stage ≡ Sections → r.chains ≡ done ++ record { equations = es; inequations = [] } ∷ [] → is_text t ≡ true
    → line_read names r (codes "equation" ++ codes " " ++ t) ≡ Some (with_chains r (done ++ record { equations = es ++ t ∷ []; inequations = [] } ∷ []))
equation_goes names r done es t at are is =
    let last : ChainTexts = record { equations = es; inequations = [] } in
    member_line_read names r (codes "equation" ++ codes " " ++ t) (Some t) None at refl refl (behind_text (codes "equation ") t) refl
    ∙ rw (is, are, with_last-append (with_equation t) done last) refl

-- an inequation of the last chain
inequation_goes : (names : Declared) (r : Reading) (done : List ChainTexts) (es hs : List (List ℕ)) (t : List ℕ) → r.stage ≡ Sections → r.chains ≡ done ++ record { equations = es; inequations = hs } ∷ [] → is_text t ≡ true
    → line_read names r (codes "inequation" ++ codes " " ++ t) ≡ Some (with_chains r (done ++ record { equations = es; inequations = hs ++ t ∷ [] } ∷ []))
inequation_goes names r done es hs t at are is =
    let last : ChainTexts = record { equations = es; inequations = hs } in
    member_line_read names r (codes "inequation" ++ codes " " ++ t) None (Some t) at refl refl refl (behind_text (codes "inequation ") t)
    ∙ rw (is, are, with_last-append (with_inequation t) done last) refl

-- the equations of the last chain
equations_go : (names : Declared) (r : Reading) (done : List ChainTexts) (es ts : List (List ℕ)) → r.stage ≡ Sections → r.chains ≡ done ++ record { equations = es; inequations = [] } ∷ [] → list_all is_text ts ≡ true
    → Goes names r (member_lines (codes "equation") ts) (with_chains r (done ++ record { equations = es ++ ts; inequations = [] } ∷ []))
equations_go names r done es [] at are all = ap (λ (cs : List ChainTexts). with_chains r cs) (are ∙ ap (λ (xs : List (List ℕ)). done ++ record { equations = xs; inequations = [] } ∷ []) (sym (append-nil es)))
equations_go names r done es (t ∷ ts) at are all =
    let f = both_true (is_text t) (list_all is_text ts) all in
    let more = with_chains r (done ++ record { equations = es ++ t ∷ []; inequations = [] } ∷ []) in (
      more,
      going r Sections at refl,
      equation_goes names r done es t at are f.0,
      subst (λ (xs : List (List ℕ)). Goes names more (member_lines (codes "equation") ts) (with_chains r (done ++ record { equations = xs; inequations = [] } ∷ []))) (append_assoc es (t ∷ []) ts) (equations_go names more done (es ++ t ∷ []) ts at refl f.1),
    )

-- the inequations of the last chain
inequations_go : (names : Declared) (r : Reading) (done : List ChainTexts) (es hs ts : List (List ℕ)) → r.stage ≡ Sections → r.chains ≡ done ++ record { equations = es; inequations = hs } ∷ [] → list_all is_text ts ≡ true
    → Goes names r (member_lines (codes "inequation") ts) (with_chains r (done ++ record { equations = es; inequations = hs ++ ts } ∷ []))
inequations_go names r done es hs [] at are all = ap (λ (cs : List ChainTexts). with_chains r cs) (are ∙ ap (λ (xs : List (List ℕ)). done ++ record { equations = es; inequations = xs } ∷ []) (sym (append-nil hs)))
inequations_go names r done es hs (t ∷ ts) at are all =
    let f = both_true (is_text t) (list_all is_text ts) all in
    let more = with_chains r (done ++ record { equations = es; inequations = hs ++ t ∷ [] } ∷ []) in (
      more,
      going r Sections at refl,
      inequation_goes names r done es hs t at are f.0,
      subst (λ (xs : List (List ℕ)). Goes names more (member_lines (codes "inequation") ts) (with_chains r (done ++ record { equations = es; inequations = xs } ∷ []))) (append_assoc hs (t ∷ []) ts) (inequations_go names more done es (hs ++ t ∷ []) ts at refl f.1),
    )

-- the first line of a chain
begin_read : (names : Declared) (r : Reading) → r.stage ≡ Sections → length r.chains < r.sections → line_read names r (numbered (codes "chain") (length r.chains + 1)) ≡ Some (chain_begun r)
unfolding line_read section_taken
begin_read names r at less =
    let open_end : (length r.chains == r.sections) ≡ false = grind (arith, nat_tests) in
    let below : nat_lt (length r.chains) r.sections ≡ true = grind (arith, nat_tests) in
    rw (at, open_end, below, numbered_text (codes "chain ") (length r.chains + 1)) refl

-- a chain
chain_goes : (names : Declared) (r : Reading) (c : ChainTexts) → r.stage ≡ Sections → length r.chains < r.sections → AreTexts c → Goes names r (section_lines (length r.chains + 1) c) (with_chains r (r.chains ++ c ∷ []))
chain_goes names r c at less texts =
    let es = equations_go names (chain_begun r) r.chains [] c.equations at refl texts.equations in
    let mid = with_chains r (r.chains ++ record { equations = c.equations; inequations = [] } ∷ []) in
    let hs = inequations_go names mid r.chains c.equations [] c.inequations at refl texts.inequations in
    (chain_begun r, going r Sections at refl, begin_read names r at less, goes-append names (chain_begun r) mid (with_chains r (r.chains ++ c ∷ [])) (member_lines (codes "equation") c.equations) (member_lines (codes "inequation") c.inequations) es hs)

-- chains, and the chains before them
chains_go : (names : Declared) (r : Reading) (cs : List ChainTexts) → r.stage ≡ Sections → length r.chains + length cs ≡ r.sections → AllByRecursion (λ c. AreTexts c) cs → Goes names r (sections_from (length r.chains + 1) cs) (with_chains r (r.chains ++ cs))
chains_go names r [] at all texts = ap (λ (xs : List ChainTexts). with_chains r xs) (sym (append-nil r.chains))
chains_go names r (c ∷ cs) at all texts =
    let more = with_chains r (r.chains ++ c ∷ []) in
    let less : length r.chains < r.sections = omega arith in
    let size : length (r.chains ++ c ∷ []) ≡ length r.chains + 1 = length_push r.chains c in
    let rest = chains_go names more cs at (omega arith) texts.1 in
    let next : suc (length r.chains + 1) ≡ length (r.chains ++ c ∷ []) + 1 = omega arith in
    goes-append names r more (with_chains r (r.chains ++ c ∷ cs)) (section_lines (length r.chains + 1) c) (sections_from (suc (length r.chains + 1)) cs) (chain_goes names r c at less texts.0)
    (subst (λ (n : ℕ). Goes names more (sections_from n cs) (with_chains r (r.chains ++ c ∷ cs))) (sym next)
    (subst (λ (xs : List ChainTexts). Goes names more (sections_from (length (r.chains ++ c ∷ []) + 1) cs) (with_chains r xs)) (append_assoc r.chains (c ∷ []) cs) rest))

-- the last line
end_taken : (r : Reading) → length r.chains ≡ r.sections → section_taken r (codes "end") ≡ Some (at_stage End r)
unfolding section_taken
end_taken r all = let test : (length r.chains == r.sections) ≡ true = (Decides-eqb (length r.chains) r.sections).1 all in rw test refl

-- the last line
end_goes : (names : Declared) (r : Reading) → r.stage ≡ Sections → length r.chains ≡ r.sections → Goes names r (codes "end" ∷ []) (at_stage End r)
end_goes names r at all = (at_stage End r, going r Sections at refl, section_line names r (codes "end") at ∙ end_taken r all, refl)

-- the lines behind the tree
sections_all : (names : Declared) (r : Reading) (chains : List ChainTexts) → r.stage ≡ Lines → is_whole r ≡ true → r.chains ≡ [] → r.sections ≡ length chains → AllByRecursion (λ c. AreTexts c) chains
    → Goes names r (chain_lines chains) (at_stage End (with_chains (at_stage Sections r) chains))
sections_all names r chains at whole none count texts =
    let s = at_stage Sections r in
    let line = subst (λ (n : ℕ). line_read names r (numbered (codes "chains") n) ≡ Some (at_stage Sections r)) count (chains_line_read names r at whole) in
    let size : length r.chains + length chains ≡ r.sections = ap (λ (cs : List ChainTexts). length cs + length chains) none ∙ start (length chains) ∙ sym count in
    let go = subst (λ (xs : List ChainTexts). Goes names s (sections_from (length xs + 1) chains) (with_chains s (xs ++ chains))) none (chains_go names s chains refl size texts) in
    (s, going r Lines at refl, line, goes-append names s (with_chains s chains) (at_stage End (with_chains s chains)) (sections_from 1 chains) (codes "end" ∷ []) go (end_goes names (with_chains s chains) refl (sym count)))
  where
    start : (n : ℕ) → 0 + n ≡ n
    start n = omega arith

-- ---- no line has a line feed
-- texts behind texts
all_lack-append : (a b : List (List ℕ)) → AllLack 10 a → AllLack 10 b → AllLack 10 (a ++ b)
all_lack-append [] b all more = more
all_lack-append (line ∷ a) b all more = (all.0, all_lack-append a b all.1 more)

-- a byte of a text is no line feed
no_feed_byte : (b : ℕ) → is_text_byte b ≡ true → not (b == 10) ≡ true
no_feed_byte b e = let f = both_true (nat_le 32 b) (nat_le b 126) e in let g = f.0 in grind (arith, nat_tests)

-- nor are several
text_bytes_lack : (text : List ℕ) → list_all is_text_byte text ≡ true → lacks 10 text ≡ true
text_bytes_lack [] e = refl
text_bytes_lack (b ∷ text) e =
    let f = both_true (is_text_byte b) (list_all is_text_byte text) e in
    and_true (not (b == 10)) (lacks 10 text) (no_feed_byte b f.0) (text_bytes_lack text f.1)

-- the lines of members
members_lack : (word : List ℕ) (ts : List (List ℕ)) → lacks 10 (word ++ codes " ") ≡ true → list_all is_text ts ≡ true → AllLack 10 (member_lines word ts)
members_lack word [] e all = tt
members_lack word (t ∷ ts) e all =
    let f = both_true (is_text t) (list_all is_text ts) all in
    let g = both_true (nat_lt 0 (length t)) (list_all is_text_byte t) f.0 in
    (lacks-append 10 (word ++ codes " ") t e (text_bytes_lack t g.1), members_lack word ts e f.1)

-- a word and a number
numbered_lack : (word : List ℕ) (n : ℕ) → lacks 10 (word ++ codes " ") ≡ true → lacks 10 (numbered word n) ≡ true
numbered_lack word n e = lacks-append 10 (word ++ codes " ") (decimal n) e (decimal-lacks 10 feed_outside.digit n)

-- the lines of chains
sections_lack : (k : ℕ) (cs : List ChainTexts) → AllByRecursion (λ c. AreTexts c) cs → AllLack 10 (sections_from k cs)
sections_lack k [] all = tt
sections_lack k (c ∷ cs) all =
    all_lack-append (section_lines k c) (sections_from (suc k) cs)
    (numbered_lack (codes "chain") k refl, all_lack-append (member_lines (codes "equation") c.equations) (member_lines (codes "inequation") c.inequations) (members_lack (codes "equation") c.equations refl all.0.equations) (members_lack (codes "inequation") c.inequations refl all.0.inequations))
    (sections_lack (suc k) cs all.1)

-- the lines of a tree
lines_lack : (names : Declared) (lines : List Line) → IsDeclared names → AllByRecursion (λ line. IsLineOf names line) lines → AllLack 10 (map (λ line. line_text names line) lines)
lines_lack names [] d of = tt
lines_lack names (line ∷ lines) d of = (line_text-lacks names line d of.0, lines_lack names lines d of.1)

-- the lines of a document
document_lacks : (names : Declared) (tree : Trees.Tree) (chains : List ChainTexts) → IsDeclared names → AllByRecursion (λ line. IsLineOf names line) tree.lines → AllByRecursion (λ c. AreTexts c) chains
    → AllLack 10 (document_lines names tree chains)
unfolding document_lines
document_lacks names tree chains d of texts =
    all_lack-append (head_lines tree.budget ++ map (λ line. line_text names line) tree.lines) (chain_lines chains)
    (all_lack-append (head_lines tree.budget) (map (λ line. line_text names line) tree.lines) (refl, (numbered_lack (codes "budget") tree.budget refl, (refl, tt))) (lines_lack names tree.lines d of))
    (numbered_lack (codes "chains") (length chains) refl, all_lack-append (sections_from 1 chains) (codes "end" ∷ []) (sections_lack 1 chains texts) (refl, tt))

-- ---- documents
-- a reading that gives a tree and texts for its chains
pub record ReadsAs (names : Declared) (bytes : List ℕ) (tree : Trees.Tree) (chains : List ChainTexts) : Type 0 where
  pub reading : Reading
  pub reads : document_at names bytes ≡ Ok reading
  pub tree_is : tree_read reading ≡ tree
  pub chains_are : reading.chains ≡ chains

-- the lines of a document are read, and give the tree and the texts
lines_read : (names : Declared) (tree : Trees.Tree) (chains : List ChainTexts) (bytes : List ℕ) (last : Reading) → Goes names unread (document_lines names tree chains) last → is_done last.stage ≡ true → AllLack 10 (document_lines names tree chains)
    → document_text names tree chains ≡ bytes → document_at names bytes ≡ Ok last
unfolding document_at
lines_read names tree chains bytes last goes done lack are =
    ap (λ (bs : List ℕ). read_from names 1 unread (slice_split (λ b. b == 10) bs)) (sym are) ∙ ap (read_from names 1 unread) (parts_are (document_lines names tree chains) lack) ∙ goes_read names 1 unread last (document_lines names tree chains) goes done

-- the lines of a document go from the first to the last
document_goes : (names : Declared) (tree : Trees.Tree) (chains : List ChainTexts) (mid last : Reading) → Goes names unread (head_lines tree.budget) (started tree.budget) → Goes names (started tree.budget) (map (λ line. line_text names line) tree.lines) mid
    → Goes names mid (chain_lines chains) last → Goes names unread (document_lines names tree chains) last
unfolding document_lines
document_goes names tree chains mid last head lines sections =
    goes-append names unread mid last (head_lines tree.budget ++ map (λ line. line_text names line) tree.lines) (chain_lines chains)
    (goes-append names unread (started tree.budget) mid (head_lines tree.budget) (map (λ line. line_text names line) tree.lines) head lines) sections

-- bytes that spell a document are read as it
pub document_at-text : (names : Declared) (tree : Trees.Tree) (chains : List ChainTexts) (bytes : List ℕ) → IsDeclared names → IsDocument names tree chains bytes → ReadsAs names bytes tree chains
document_at-text names tree chains bytes d is =
    let budget = is.is_tree.budget in
    let ls = lines_go names (started tree.budget) tree.lines d refl ((one_tree tree.lines).1 is.is_tree.lines) is.of_names in
    let count : ls.last.sections ≡ length chains = ls.sections ∙ start (chain_count tree.lines) ∙ sym is.sections in
    let last = at_stage End (with_chains (at_stage Sections ls.last) chains) in
    let goes = document_goes names tree chains ls.last last (head_goes names tree.budget budget) ls.goes (sections_all names ls.last chains ls.stage ls.whole ls.chains count is.texts) in
    record {
      reading = last;
      reads = lines_read names tree chains bytes last goes refl (document_lacks names tree chains d is.of_names is.texts) is.bytes_are;
      tree_is = ap (λ (n : ℕ). record { budget = n; lines = ls.last.lines }) ls.budget ∙ ap (λ (xs : List Line). record { budget = tree.budget; lines = xs }) ls.lines_are;
      chains_are = refl;
    }
  where
    start : (n : ℕ) → 0 + n ≡ n
    start n = omega arith

-- what a call answers for bytes that spell a document
read_as : (result : Result Document CertFault) (read : Result Reading Fault) (r : Reading) (tree : Trees.Tree) (chains : List ChainTexts) → ReadsDocument result read → read ≡ Ok r → tree_read r ≡ tree → r.chains ≡ chains → IsReadAs result tree chains
read_as (Ok d) (Ok q) r tree chains e is t c = let same : q ≡ r = cc in (e.0 ∙ ap tree_read same ∙ t, e.1 ∙ ap (λ (x : Reading). x.chains) same ∙ c)
read_as (Ok d) (Err fault) r tree chains e is t c = absurd cc
read_as (Err Memory) read r tree chains e is t c = tt
read_as (Err (BadLine n)) read r tree chains e is t c = absurd (let bad = sym e ∙ is in cc)
read_as (Err EndsEarly) read r tree chains e is t c = absurd (let bad = sym e ∙ is in cc)
read_as (Err BytesAfter) read r tree chains e is t c = absurd (let bad = sym e ∙ is in cc)

-- a call answers the document that the bytes spell
pub reads_only : (names : Declared) (bytes : List ℕ) (result : Result Document CertFault) → IsDeclared names → ReadsDocument result (document_at names bytes) → (tree : Trees.Tree) (chains : List ChainTexts)
    → IsDocument names tree chains bytes → IsReadAs result tree chains
reads_only names bytes result d exact tree chains is =
    let f = document_at-text names tree chains bytes d is in
    read_as result (document_at names bytes) f.reading tree chains exact f.reads f.tree_is f.chains_are

-- two documents with the same bytes are one
pub one_reading : (names : Declared) (bytes : List ℕ) (t u : Trees.Tree) (cs ds : List ChainTexts) → IsDeclared names → IsDocument names t cs bytes → IsDocument names u ds bytes → (t ≡ u) × (cs ≡ ds)
one_reading names bytes t u cs ds d is other =
    let f = document_at-text names t cs bytes d is in
    let g = document_at-text names u ds bytes d other in
    let same = ok_same f.reading g.reading (sym f.reads ∙ g.reads) in
    (sym f.tree_is ∙ ap tree_read same ∙ g.tree_is, sym f.chains_are ∙ ap (λ (r : Reading). r.chains) same ∙ g.chains_are)
