-- Behind the end of a system any document may stand.
use Rattle.std.proofs.Common.{◌≡◌, ℕ, ◌+◌, ◌-◌, ◌≤◌, ◌<◌, List, [], ◌∷◌, ◌++◌, length, take, drop, Bool, true, false, refl, sym, ap, subst, ◌∙◌, arith}
use Rattle.std.specs.Prelude.{codes}
use Rattle.std.specs.Char.{is_ascii_digit}
use Rattle.std.specs.Str.{bytes_eq}
use Rattle.std.proofs.lemmas.List.{append_assoc, length-append, take-append-drop}
use Rattle.std.proofs.lemmas.Slice.Eq.{bytes_eq-Decides}
use Rattle.dz_syntax.specs.declared.endings.Form.TheVariants as forms
use Rattle.dz_syntax.specs.declared.marks.Section.TheVariants as sections
use Rattle.dz_syntax.specs.declared.token.Token.TheVariants.{Word}
use Rattle.dz_syntax.specs.declared.token.Word.TheVariants as words
use Rattle.dz_syntax.specs.Following.{IsFollowed, before_document}
use Rattle.dz_syntax.specs.Marks.{is_end}
use Rattle.dz_syntax.specs.Names.{signature_of}
use Rattle.dz_syntax.specs.SystemGrammar.{IsRest, IsSystem}
use Rattle.dz_syntax.specs.Systems.{Tree}
use Rattle.dz_syntax.specs.Tokens.{front, front_len, is_letter, is_name_byte, mark_at, skip_from, token_of, word_or_name}
use Rattle.dz_syntax.proofs.NameTokens.{token_of-letter, token_of-digit, token_of-mark}
use Rattle.dz_syntax.proofs.ReadTails.{header_same, section_same}
use Rattle.dz_syntax.proofs.Suffixes.{EndsIn, further, header_ends, section_ends, skip_ends}
use Rattle.dz_syntax.proofs.Tails.{AreTwins, skip_same}

-- ---- the word at the end
-- the word of these letters
word_is_end : (name : List ℕ) → is_end (word_or_name name) ≡ true → bytes_eq name (codes "end") ≡ true
word_is_end name e = grind arith

-- no mark is that word
mark_is_no_end : (b : ℕ) (rest : List ℕ) → is_end (mark_at b rest).0 ≡ true → ⊥
mark_is_no_end b [] e = grind arith
mark_is_no_end b (c ∷ rest) e = grind arith

-- a text that begins with the word, by what its first byte is
end_by : (b : ℕ) (rest : List ℕ) (letter digit : Bool) → is_letter b ≡ letter → is_ascii_digit b ≡ digit → is_end (token_of (b ∷ rest)).0 ≡ true
    → (more : List ℕ) × (b ∷ rest ≡ codes "end" ++ more)
end_by b rest true digit e f is =
    let n = front_len is_name_byte (b ∷ rest) in
    let name : take n (b ∷ rest) ≡ codes "end" = (bytes_eq-Decides (take n (b ∷ rest)) (codes "end")).0 (word_is_end (take n (b ∷ rest)) (ap (λ t. is_end t.0) (sym (token_of-letter b rest e)) ∙ is)) in
    (drop n (b ∷ rest), sym (take-append-drop n (b ∷ rest)) ∙ ap (λ t. t ++ drop n (b ∷ rest)) name)
end_by b rest false true e f is = let k : false ≡ true = ap (λ t. is_end t.0) (sym (token_of-digit b rest e f)) ∙ is in absurd cc
end_by b rest false false e f is = absurd (mark_is_no_end b rest (ap (λ t. is_end t.0) (sym (token_of-mark b rest e f)) ∙ is))

end_word : (text : List ℕ) → is_end (front text) ≡ true → (more : List ℕ) × (text ≡ 101 ∷ 110 ∷ 100 ∷ more)
unfolding front token_of
end_word [] is = absurd cc
end_word (b ∷ rest) is = end_by b rest (is_letter b) (is_ascii_digit b) refl refl is

-- the word before a line feed
end_token : (document : List ℕ) → token_of (101 ∷ 110 ∷ 100 ∷ 10 ∷ document) ≡ (Word words.End, 3)
unfolding token_of
end_token document = refl

-- ---- the system
ends_within : (end text : List ℕ) → EndsIn end text → length end ≤ length text
ends_within end text a = omega (arith, ap length a.1, length-append a.0 end)

none_before : (before end : List ℕ) → end ≡ before ++ end → before ≡ []
none_before [] end e = refl
none_before (b ∷ before) end e = absurd (omega (arith, ap length e, length-append before end))

-- a document behind the word
rest_follows : (total : ℕ) (names : _) (document end : List ℕ) → end ≡ 101 ∷ 110 ∷ 100 ∷ 10 ∷ document
    → IsRest forms.Document total names end (record { questions = []; values = []; functions = []; document = total - length document })
unfolding front
rest_follows total names document end e =
    let t = ap token_of e ∙ end_token document in
    (document, ap (λ t. is_end t.0) t, ap (λ n. drop n end) (ap (λ t. t.1) t) ∙ ap (drop 3) e, refl)

pub documents_follow : (bytes : List ℕ) (tree : Tree) → IsSystem forms.Plain bytes tree → IsFollowed bytes tree
documents_follow bytes tree a =
    let word = end_word a.7 a.11.0.1.0 in
    let mid = section_ends sections.Equations a.0 a.5 a.2 a.6 a.9 in
    let last = section_ends sections.Inequations a.0 a.6 a.3 a.7 a.10 in
    let first = header_ends (skip_from false bytes) a.0 a.1 a.5 a.8 in
    let whole = further a.7 (skip_from false bytes) bytes (further a.7 a.5 (skip_from false bytes) (further a.7 a.6 a.5 last mid) first) (skip_ends false bytes) in
    let bytes_are : bytes ≡ whole.0 ++ (101 ∷ 110 ∷ 100 ∷ word.0) = whole.1 ∙ ap (λ t. whole.0 ++ t) word.1 in (
      whole.0 ++ codes "end",
      word.0,
      bytes_are ∙ sym (append_assoc whole.0 (codes "end") word.0),
      λ document.
          let rest : List ℕ = 110 ∷ 100 ∷ word.0 in
          let other : List ℕ = 110 ∷ 100 ∷ 10 ∷ document in
          let twin : List ℕ = (whole.0 ++ codes "end") ++ (10 ∷ document) in
          let twin_is : twin ≡ whole.0 ++ (101 ∷ other) = append_assoc whole.0 (codes "end") (10 ∷ document) in
          let there : length rest < length a.7 = omega (arith, ap length word.1) in
          let third : length a.7 ≤ length a.6 = ends_within a.7 a.6 last in
          let second : length a.6 ≤ length a.5 = ends_within a.6 a.5 mid in
          let begin : length a.5 ≤ length (skip_from false bytes) = ends_within a.5 (skip_from false bytes) first in
          let reaches : length rest < length (skip_from false (whole.0 ++ (101 ∷ rest))) = subst (λ t. length rest < length (skip_from false t)) bytes_are (omega (arith, there, third, second, begin)) in
          let skipped : AreTwins rest other (skip_from false bytes) (skip_from false twin) =
          subst (λ t. AreTwins rest other (skip_from false t) (skip_from false twin)) (sym bytes_are)
          (subst (λ t. AreTwins rest other (skip_from false (whole.0 ++ (101 ∷ rest))) (skip_from false t)) (sym twin_is) (skip_same rest other false whole.0 reaches)) in
          let header = header_same rest other (skip_from false bytes) (skip_from false twin) a.0 a.1 a.5 skipped a.8 (omega (arith, there, third, second)) in
          let equations = section_same rest other sections.Equations a.0 a.5 header.0 a.2 a.6 header.1 a.9 (omega (arith, there, third)) in
          let inequations = section_same rest other sections.Inequations a.0 a.6 equations.0 a.3 a.7 equations.1 a.10 there in
          let none = none_before inequations.1.0 (101 ∷ rest) (sym word.1 ∙ inequations.1.1) in
          let end : inequations.0 ≡ 101 ∷ other = inequations.1.2 ∙ ap (λ t. t ++ (101 ∷ other)) none in
          let place : length (whole.0 ++ codes "end") + 1 ≡ length twin - length document = omega (arith, length-append (whole.0 ++ codes "end") (10 ∷ document)) in (
            a.0,
            a.1,
            a.2,
            a.3,
            record { questions = []; values = []; functions = []; document = length twin - length document },
            header.0,
            equations.0,
            inequations.0,
            header.2,
            equations.2,
            inequations.2,
            rest_follows (length twin) a.0 document inequations.0 end,
            ap (λ t. before_document t (length (whole.0 ++ codes "end") + 1)) a.12 ∙ ap (before_document (record {
              names = a.0;
              signature = signature_of a.0;
              blocks = a.1;
              equations = a.2;
              inequations = a.3;
              questions = a.4.questions;
              values = a.4.values;
              functions = a.4.functions;
              document = a.4.document;
            })) place,
          ),
    )
