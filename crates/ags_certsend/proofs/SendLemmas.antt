-- What was sent of a text that is made piece by piece, a piece further.
use Rattle.std.proofs.Common.{◌≡◌, ℕ, suc, ◌+◌, ◌-◌, ◌<◌, ◌≤◌, List, [], ◌∷◌, ◌++◌, length, drop, get_or, map, Option, Some, None, refl, sym, ap, ◌∙◌, append_assoc, append-nil, arith}
use Rattle.std.specs.List.{filter_map, flat_map, range_with_len, cons_option}
use Rattle.std.proofs.lemmas.List.{drop_more, drop_all}
use Rattle.ags_domain.specs.declared.values.Value.{Value}
use Rattle.ags_row.specs.declared.rows.Row.{Row}
use Rattle.ags_outside.specs.Sink.{appended, Wrote, WroteFront, wrote_nothing, wrote_piece, wrote_all, wrote_front, wrote_front_last, front_in_first}
use Rattle.ags_certtype.specs.Cert.{Stated}
use Rattle.ags_certtext.specs.declared.statements.Statement.{Statement}
use Rattle.ags_certtext.specs.declared.statements.Statement.TheVariants.{Start, Row as RowOf, End}
use Rattle.ags_certsend.specs.Spelled.{statement_line}
use Rattle.ags_certsend.specs.CertText.{cell_statement, init_statement, input_statement, output_statement, place_statement, ascending, row_line_of, at_statement, link_statements, row_statements, first_line, has_links, statements_of, cert_text}
use Rattle.ags_certsend.specs.Section.{section_text, kinds_text, cell_line, link_lines, row_lines}

-- ---- a text of a list, made of a piece for each element

module _ {X : Type 0} (piece : X → List ℕ) (xs : List X) where
  -- the pieces of the first i elements were sent
  pub record Sending (old now : Option (List ℕ)) (i : ℕ) : Type 0 where
    wrote : Wrote old now (flat_map piece xs) (flat_map piece (drop i xs))

  pub sending_none : (old : Option (List ℕ)) → Sending old old 0
  sending_none old = record { wrote = wrote_nothing old (flat_map piece xs) }

  next_cut : (i : ℕ) (x : X) → i < length xs → x ≡ get_or xs i x → flat_map piece (drop i xs) ≡ piece x ++ flat_map piece (drop (i + 1) xs)
  next_cut i x within is = ap (flat_map piece) (drop_more xs i x within ∙ ap (λ (y : X). y ∷ drop (i + 1) xs) (sym is))

  pub sending_more : {old now new : Option (List ℕ)} (i : ℕ) (x : X) → Sending old now i → i < length xs → x ≡ get_or xs i x
      → new ≡ appended now (piece x) → Sending old new (i + 1)
  sending_more i x so within is sent = record { wrote = wrote_piece (piece x) (flat_map piece (drop (i + 1) xs)) so.wrote (next_cut i x within is) sent }

  pub sending_front : {old now new : Option (List ℕ)} (i : ℕ) (x : X) → Sending old now i → i < length xs → x ≡ get_or xs i x
      → WroteFront now new (piece x) → WroteFront old new (flat_map piece xs)
  sending_front i x so within is front = wrote_front (piece x) (flat_map piece (drop (i + 1) xs)) so.wrote (next_cut i x within is) front

  pub sending_all : {old now : Option (List ℕ)} (i : ℕ) → Sending old now i → length xs ≤ i → now ≡ appended old (flat_map piece xs)
  sending_all i so past = wrote_all (rw (drop_all i xs past) at so.wrote)

-- ---- the lines of a kind that stand by address

module _ (stated : ℕ → Option Statement) (count : ℕ) where
  -- the lines from an address on
  lines_from : ℕ → List ℕ
  lines_from address = flat_map statement_line (filter_map stated (range_with_len address (count - address)))

  -- the lines of the addresses below one were sent
  pub record Ascending (old now : Option (List ℕ)) (address : ℕ) : Type 0 where
    wrote : Wrote old now (flat_map statement_line (ascending stated count)) (lines_from address)

  pub ascending_none : (old : Option (List ℕ)) → Ascending old old 0
  unfolding ascending lines_from
  ascending_none old =
      let whole : count - 0 ≡ count = omega arith in
      record { wrote = rw whole (wrote_nothing old (flat_map statement_line (ascending stated count))) }

  range_cut : (address : ℕ) → address < count → range_with_len address (count - address) ≡ address ∷ range_with_len (address + 1) (count - (address + 1))
  range_cut address within =
      let more : count - address ≡ suc (count - (address + 1)) = omega arith in
      rw more refl

  from_cut : (address : ℕ) (found : Option Statement) → address < count → stated address ≡ found
      → lines_from address ≡ flat_map statement_line (cons_option found (filter_map stated (range_with_len (address + 1) (count - (address + 1)))))
  unfolding lines_from
  from_cut address found within is = rw (range_cut address within, ← is) refl

  pub ascending_skip : {old now : Option (List ℕ)} (address : ℕ) → Ascending old now address → address < count → stated address ≡ None → Ascending old now (address + 1)
  unfolding lines_from
  ascending_skip address so within is = record { wrote = rw (from_cut address None within is) at so.wrote }

  pub ascending_more : {old now new : Option (List ℕ)} (address : ℕ) (statement : Statement) → Ascending old now address → address < count → stated address ≡ Some statement
      → new ≡ appended now (statement_line statement) → Ascending old new (address + 1)
  unfolding lines_from
  ascending_more address statement so within is sent = record {
    wrote = wrote_piece (statement_line statement) (lines_from (address + 1)) so.wrote (from_cut address (Some statement) within is) sent;
  }

  pub ascending_front : {old now new : Option (List ℕ)} (address : ℕ) (statement : Statement) → Ascending old now address → address < count → stated address ≡ Some statement
      → WroteFront now new (statement_line statement) → WroteFront old new (flat_map statement_line (ascending stated count))
  unfolding lines_from
  ascending_front address statement so within is front =
      wrote_front (statement_line statement) (lines_from (address + 1)) so.wrote (from_cut address (Some statement) within is) front

  pub ascending_all : {old now : Option (List ℕ)} (address : ℕ) → Ascending old now address → count ≤ address → now ≡ appended old (flat_map statement_line (ascending stated count))
  unfolding lines_from
  ascending_all address so past =
      let none : count - address ≡ 0 = omega arith in
      wrote_all (rw none at so.wrote)

-- ---- the text of a certificate in the parts that are sent

flat_map-map : {X Y A : Type 0} (f : Y → List A) (g : X → Y) (xs : List X) → flat_map f (map g xs) ≡ flat_map (λ (x : X). f (g x)) xs
flat_map-map f g [] = refl
flat_map-map f g (x ∷ xs) = ap (λ (ys : List _). f (g x) ++ ys) (flat_map-map f g xs)

flat_map-append : {X A : Type 0} (f : X → List A) (xs ys : List X) → flat_map f (xs ++ ys) ≡ flat_map f xs ++ flat_map f ys
flat_map-append f [] ys = refl
flat_map-append f (x ∷ xs) ys = ap (λ (zs : List _). f x ++ zs) (flat_map-append f xs ys) ∙ sym (append_assoc (f x) (flat_map f xs) (flat_map f ys))

flat_map-flat_map : {X Y A : Type 0} (f : Y → List A) (g : X → List Y) (xs : List X) → flat_map f (flat_map g xs) ≡ flat_map (λ (x : X). flat_map f (g x)) xs
flat_map-flat_map f g [] = refl
flat_map-flat_map f g (x ∷ xs) = flat_map-append f (g x) (flat_map g xs) ∙ ap (λ (ys : List _). flat_map f (g x) ++ ys) (flat_map-flat_map f g xs)

pub row_cut : (row : Row Value) → row_lines row ≡ statement_line (RowOf (row_line_of row)) ++ (flat_map cell_line row.at ++ link_lines row.link)
unfolding row_lines row_statements
row_cut row = ap (λ (ys : List ℕ). statement_line (RowOf (row_line_of row)) ++ ys)
    (flat_map-append statement_line (map at_statement row.at) (link_statements row.link)
    ∙ ap (λ (ys : List ℕ). ys ++ link_lines row.link) (flat_map-map statement_line at_statement row.at))

rows_cut : (rows : List (Row Value)) → flat_map statement_line (flat_map row_statements rows) ≡ flat_map row_lines rows
unfolding row_lines
rows_cut rows = flat_map-flat_map statement_line row_statements rows

end_cut : flat_map statement_line (End ∷ []) ≡ statement_line End
end_cut = append-nil (statement_line End)

pub cert_cut : (cert : Stated) → cert_text cert
    ≡ first_line (has_links cert.rows) ++ (statement_line (Start cert.start) ++ (kinds_text cert ++ (flat_map row_lines cert.rows ++ statement_line End)))
unfolding cert_text statements_of kinds_text section_text
cert_cut cert = rw (
  flat_map-append statement_line (ascending (cell_statement cert) 2048),
  flat_map-append statement_line (ascending (init_statement cert) 2048),
  flat_map-append statement_line (ascending (input_statement cert) 4096),
  flat_map-append statement_line (ascending (output_statement cert) 4096),
  flat_map-append statement_line (ascending (place_statement cert) 4096),
  flat_map-append statement_line (flat_map row_statements cert.rows) (End ∷ []),
  rows_cut cert.rows,
  end_cut,
) (simp append_assoc refl)

-- ---- three parts that are sent one after the other

module _ (p1 p2 p3 : List ℕ) (old : Option (List ℕ)) where
  first_sent : (t1 : Option (List ℕ)) → t1 ≡ appended old p1 → Wrote old t1 (p1 ++ (p2 ++ p3)) (p2 ++ p3)
  first_sent t1 is = wrote_piece p1 (p2 ++ p3) (wrote_nothing old (p1 ++ (p2 ++ p3))) refl is

  second_sent : (t1 t2 : Option (List ℕ)) → t1 ≡ appended old p1 → t2 ≡ appended t1 p2 → Wrote old t2 (p1 ++ (p2 ++ p3)) p3
  second_sent t1 t2 is1 is2 = wrote_piece p2 p3 (first_sent t1 is1) refl is2

  pub first_front : (t1 : Option (List ℕ)) → WroteFront old t1 p1 → WroteFront old t1 (p1 ++ (p2 ++ p3))
  first_front t1 front = front_in_first p1 (p2 ++ p3) front

  pub second_front : (t1 t2 : Option (List ℕ)) → t1 ≡ appended old p1 → WroteFront t1 t2 p2 → WroteFront old t2 (p1 ++ (p2 ++ p3))
  second_front t1 t2 is1 front = wrote_front p2 p3 (first_sent t1 is1) refl front

  pub third_front : (t1 t2 t3 : Option (List ℕ)) → t1 ≡ appended old p1 → t2 ≡ appended t1 p2 → WroteFront t2 t3 p3 → WroteFront old t3 (p1 ++ (p2 ++ p3))
  third_front t1 t2 t3 is1 is2 front = wrote_front_last (second_sent t1 t2 is1 is2) front

  pub all_3 : (t1 t2 t3 : Option (List ℕ)) → t1 ≡ appended old p1 → t2 ≡ appended t1 p2 → t3 ≡ appended t2 p3 → t3 ≡ appended old (p1 ++ (p2 ++ p3))
  all_3 t1 t2 t3 is1 is2 is3 = wrote_all (wrote_piece p3 [] (second_sent t1 t2 is1 is2) (sym (append-nil p3)) is3)

-- ---- five parts that are sent one after the other

module _ (p1 p2 p3 p4 p5 : List ℕ) (old : Option (List ℕ)) where
  abbrev whole : List ℕ
  whole = p1 ++ (p2 ++ (p3 ++ (p4 ++ p5)))

  pub front_1 : (t1 : Option (List ℕ)) → WroteFront old t1 p1 → WroteFront old t1 whole
  front_1 t1 front = front_in_first p1 (p2 ++ (p3 ++ (p4 ++ p5))) front

  sent_1 : (t1 : Option (List ℕ)) → t1 ≡ appended old p1 → Wrote old t1 whole (p2 ++ (p3 ++ (p4 ++ p5)))
  sent_1 t1 is = wrote_piece p1 (p2 ++ (p3 ++ (p4 ++ p5))) (wrote_nothing old whole) refl is

  pub front_2 : (t1 t2 : Option (List ℕ)) → t1 ≡ appended old p1 → WroteFront t1 t2 p2 → WroteFront old t2 whole
  front_2 t1 t2 is1 front = wrote_front p2 (p3 ++ (p4 ++ p5)) (sent_1 t1 is1) refl front

  sent_2 : (t1 t2 : Option (List ℕ)) → t1 ≡ appended old p1 → t2 ≡ appended t1 p2 → Wrote old t2 whole (p3 ++ (p4 ++ p5))
  sent_2 t1 t2 is1 is2 = wrote_piece p2 (p3 ++ (p4 ++ p5)) (sent_1 t1 is1) refl is2

  pub front_3 : (t1 t2 t3 : Option (List ℕ)) → t1 ≡ appended old p1 → t2 ≡ appended t1 p2 → WroteFront t2 t3 p3 → WroteFront old t3 whole
  front_3 t1 t2 t3 is1 is2 front = wrote_front p3 (p4 ++ p5) (sent_2 t1 t2 is1 is2) refl front

  sent_3 : (t1 t2 t3 : Option (List ℕ)) → t1 ≡ appended old p1 → t2 ≡ appended t1 p2 → t3 ≡ appended t2 p3 → Wrote old t3 whole (p4 ++ p5)
  sent_3 t1 t2 t3 is1 is2 is3 = wrote_piece p3 (p4 ++ p5) (sent_2 t1 t2 is1 is2) refl is3

  pub front_4 : (t1 t2 t3 t4 : Option (List ℕ)) → t1 ≡ appended old p1 → t2 ≡ appended t1 p2 → t3 ≡ appended t2 p3 → WroteFront t3 t4 p4 → WroteFront old t4 whole
  front_4 t1 t2 t3 t4 is1 is2 is3 front = wrote_front p4 p5 (sent_3 t1 t2 t3 is1 is2 is3) refl front

  sent_4 : (t1 t2 t3 t4 : Option (List ℕ)) → t1 ≡ appended old p1 → t2 ≡ appended t1 p2 → t3 ≡ appended t2 p3 → t4 ≡ appended t3 p4 → Wrote old t4 whole p5
  sent_4 t1 t2 t3 t4 is1 is2 is3 is4 = wrote_piece p4 p5 (sent_3 t1 t2 t3 is1 is2 is3) refl is4

  pub front_5 : (t1 t2 t3 t4 t5 : Option (List ℕ)) → t1 ≡ appended old p1 → t2 ≡ appended t1 p2 → t3 ≡ appended t2 p3 → t4 ≡ appended t3 p4
      → WroteFront t4 t5 p5 → WroteFront old t5 whole
  front_5 t1 t2 t3 t4 t5 is1 is2 is3 is4 front = wrote_front_last (sent_4 t1 t2 t3 t4 is1 is2 is3 is4) front

  pub all_5 : (t1 t2 t3 t4 t5 : Option (List ℕ)) → t1 ≡ appended old p1 → t2 ≡ appended t1 p2 → t3 ≡ appended t2 p3 → t4 ≡ appended t3 p4
      → t5 ≡ appended t4 p5 → t5 ≡ appended old whole
  all_5 t1 t2 t3 t4 t5 is1 is2 is3 is4 is5 = wrote_all (wrote_piece p5 [] (sent_4 t1 t2 t3 t4 is1 is2 is3 is4) (sym (append-nil p5)) is5)
