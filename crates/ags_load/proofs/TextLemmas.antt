-- Texts of lines, put together.
use Rattle.std.proofs.Common.{◌≡◌, ℕ, ◌+◌, List, [], ◌∷◌, ◌++◌, codes, refl, sym, ap, subst, ◌∙◌, append_assoc, append-nil, add-one}
use Rattle.std.proofs.lemmas.Grind.{flat_map-append}
use Rattle.ags_load.specs.Workload.{text_of, each_up_to, row_line, inner_rows}

-- the text of lines with further ones after them
pub text_append : (a b : List (List ℕ)) → text_of (a ++ b) ≡ text_of a ++ text_of b
unfolding text_of
text_append a b = flat_map-append (λ (line : List ℕ). line ++ codes "\n") a b

-- the text of one line
pub text_one : (line : List ℕ) → text_of (line ∷ []) ≡ line ++ codes "\n"
unfolding text_of
text_one line = simp append_assoc

-- two texts of lines, one added after the other
pub added : (a b : List (List ℕ)) (old mid new : List ℕ) → mid ≡ old ++ text_of a → new ≡ mid ++ text_of b → new ≡ old ++ text_of (a ++ b)
added a b old mid new first second =
    second ∙ ap (λ (text : List ℕ). text ++ text_of b) first ∙ append_assoc old (text_of a) (text_of b)
    ∙ ap (λ (text : List ℕ). old ++ text) (sym (text_append a b))

-- the lines up to the next number
each_next : (lines_for : ℕ → List (List ℕ)) (count : ℕ) → each_up_to lines_for (count + 1) ≡ each_up_to lines_for count ++ lines_for (count + 1)
unfolding each_up_to
each_next lines_for count = rw (add-one) refl

-- lines for a further number, added after those for the numbers before it
pub added_next : (lines_for : ℕ → List (List ℕ)) (count : ℕ) (old mid new : List ℕ)
    → mid ≡ old ++ text_of (each_up_to lines_for count) → new ≡ mid ++ text_of (lines_for (count + 1))
    → new ≡ old ++ text_of (each_up_to lines_for (count + 1))
added_next lines_for count old mid new before next =
    added (each_up_to lines_for count) (lines_for (count + 1)) old mid new before next ∙ ap (λ (lines : List (List ℕ)). old ++ text_of lines) (sym (each_next lines_for count))

-- no line, added to a text
pub none_added : (lines_for : ℕ → List (List ℕ)) (text : List ℕ) → text ≡ text ++ text_of (each_up_to lines_for 0)
unfolding each_up_to text_of
none_added lines_for text = sym (append-nil text)

-- three texts of lines, one added after the other
pub put_together : (first each last : List (List ℕ)) (one two three : List ℕ)
    → one ≡ text_of first → two ≡ one ++ text_of each → three ≡ two ++ text_of last → three ≡ text_of (first ++ (each ++ last))
put_together first each last one two three a b c = added first (each ++ last) [] one three a (added each last one two three b c)

-- a row's line, added to a text, where its location is told in two ways
pub row_added : (old new a q : List ℕ) (one other : ℕ) → one ≡ other → new ≡ old ++ text_of (row_line one a q ∷ []) → new ≡ old ++ text_of (row_line other a q ∷ [])
row_added old new a q one other same was = subst (λ (at : ℕ). new ≡ old ++ text_of (row_line at a q ∷ [])) same was

-- the lines of an inner row in the same way
pub inner_added : (old new a : List ℕ) (call one other : ℕ) → one ≡ other → new ≡ old ++ text_of (inner_rows one a call) → new ≡ old ++ text_of (inner_rows other a call)
inner_added old new a call one other same was = subst (λ (at : ℕ). new ≡ old ++ text_of (inner_rows at a call)) same was
