-- What each kind of fault wants, in the words of docs/.
use Rattle.std.specs.Prelude.{ℕ, List, [], ◌∷◌, codes, if◌then◌else◌}
use Rattle.std.specs.Str.{bytes_eq}

-- What a kind wants.
pub record Hint : Type 0 where
  pub kind : List ℕ
  pub wanted : List ℕ

-- The kinds of a line, and what is said of any other.
pub record Hints : Type 0 where
  pub kinds : List Hint
  pub otherwise : List ℕ

-- what a kind wants, by the first row that has it
abbrev pub wanted_by : List Hint → (otherwise kind : List ℕ) → List ℕ
wanted_by [] otherwise kind = otherwise
wanted_by (hint ∷ more) otherwise kind = if bytes_eq kind hint.kind then hint.wanted else wanted_by more otherwise kind

-- what a kind wants
abbrev pub wanted_in : Hints → (kind : List ℕ) → List ℕ
wanted_in hints kind = wanted_by hints.kinds hints.otherwise kind

-- of a fault of a source
abbrev pub source : Hints
source = record {
  kinds =
      record { kind = codes "BadByte"; wanted = codes "a card, a comment too, has tabs and the characters from the space to the tilde, and no other byte" }
      ∷ record { kind = codes "LongCard"; wanted = codes "a card, a comment too, has at most 120 bytes; the line's end doesn't count" }
      ∷ record { kind = codes "BadSymbol"; wanted = codes "this is read as a source: a symbol, from column 1 on, is 1 to 6 capitals and digits with a letter among them; EQU and SYN have one; a comment has * in column 1" }
      ∷ record { kind = codes "UnknownOperation"; wanted = codes "an operation, after column 1, is one of the 27 orders, ORG, EQU, SYN, BSS, BES, DEC, OCT or END, in capitals; a comment has * in column 1" }
      ∷ record { kind = codes "MissingOperand"; wanted = codes "every operation but ABS, COM and END has an operand after a blank, with no blank in it" }
      ∷ record { kind = codes "ExtraOperand"; wanted = codes "the operand of ORG, EQU, SYN, BSS and BES is one expression, without a comma" }
      ∷ record { kind = codes "BadExpression"; wanted = codes "an operand is terms joined by + or -: /octal or decimal, 6 digits at most, *, or a symbol of at most 6 capitals and digits; an order may end in ,1" }
      ∷ record { kind = codes "BadDecimal"; wanted = codes "a number of DEC is as -1.5E2B10: 1 to 10 digits, E and B or none, net power of ten -12 to 12, scale -30 to 60; no blank stands after a comma" }
      ∷ record { kind = codes "BadOctal"; wanted = codes "each number of OCT is an optional sign and 1 to 6 octal digits, with a comma between each two" }
      ∷ record { kind = codes "SymbolTwice"; wanted = codes "a symbol stands in the symbol field of one card alone" }
      ∷ record { kind = codes "UndefinedEarly"; wanted = codes "the symbols that ORG, EQU, SYN, BSS and BES use are defined by earlier cards" }
      ∷ record { kind = codes "PlaceRange"; wanted = codes "words and ORG have places 0 to 4095, BSS and BES go forward, to 4096 at most, EQU is -262143 to 262143" }
      ∷ record { kind = codes "Undefined"; wanted = codes "each symbol that an order uses stands in the symbol field of some card" }
      ∷ record { kind = codes "AddressRange"; wanted = codes "the address of an order, the value of its expression, is 0 to 4095, in octal /0 to /7777" }
      ∷ record { kind = codes "ValueRange"; wanted = codes "each number of DEC, times 2 to the power of 17 less its scale, rounds to a value from -131072 to 131071" }
      ∷ record { kind = codes "PlaceTwice"; wanted = codes "a place has the word of one card alone" }
      ∷ [];
  otherwise = codes "docs/SOURCE.md, Faults, has the kinds";
}

-- of a fault of a machine file
abbrev pub machine : Hints
machine = record {
  kinds =
      record { kind = codes "NotToml"; wanted = codes "a machine file is one TOML document in UTF-8, with texts in quotes and numbers as 1025 or 0o2001; an empty one gives the standard machine" }
      ∷ record { kind = codes "MissingKey"; wanted = codes "codes and times, where given, have all 27 orders by name; each entry of input and output has an address" }
      ∷ record { kind = codes "BadValue"; wanted = codes "codes are even, 0 to 62, times 1 to 1000, addresses 0 to 4095, all without quotes; once is true or false; input and output are at most 32 tables each" }
      ∷ record { kind = codes "SameCode"; wanted = codes "no two of the 27 orders have one code" }
      ∷ record { kind = codes "SamePort"; wanted = codes "no two registers of one direction have one address; an input and an output register may" }
      ∷ [];
  otherwise = codes "docs/MACHINE.md, Machine files, has the kinds";
}

-- of a fault of a certificate
abbrev pub certificate : Hints
certificate = record {
  kinds =
      record { kind = codes "BadLine"; wanted = codes "in capitals and in this order come START p, CELL c value, INIT c value, IN p value, OUT p value, MAY p, then ROW p A value Q value X digits V digits with AT c value and in version 2 LINK c k after it, and END last; a value is ANY, RANGE n m or WORDS w .. with 1 to 16 w that ascend; the digits ascend without blanks; p and c have 4 octal digits, w has 6, n and m are decimal, -131072 to 131071, k -262143 to 262143; c is erasable, IN and OUT name registers; a comment has # in column 1; a line has at most 512 bytes" }
      ∷ record { kind = codes "Version"; wanted = codes "line 1 is AGSCERT 1 or AGSCERT 2, and there is no other version" }
      ∷ record { kind = codes "Twice"; wanted = codes "START stands once, an address once in one kind, AT once for a cell of a row, and LINK once in a row" }
      ∷ record { kind = codes "EmptyRange"; wanted = codes "RANGE n m has the lesser value first: n is m or less" }
      ∷ record { kind = codes "OutsideGlobal"; wanted = codes "each word that INIT or AT states of a cell is one of its CELL line: narrow the one, or widen the other" }
      ∷ record { kind = codes "NoZero"; wanted = codes "an input register that holds its word once is 0 when it was read, so the value of its IN line holds 0" }
      ∷ record { kind = codes "TooManyRows"; wanted = codes "a certificate has at most 20,000 rows, and at most 512 at one location" }
      ∷ record { kind = codes "TooManyAt"; wanted = codes "a row has at most 64 AT lines" }
      ∷ record { kind = codes "NoRows"; wanted = codes "a certificate has a ROW line before END, one at least" }
      ∷ [];
  otherwise = codes "docs/CERTIFICATE.md, Faults, has the kinds";
}

-- of a fault of a listing
abbrev pub listing : Hints
listing = record {
  kinds =
      record { kind = codes "BadLine"; wanted = codes "columns 1-7 are digits, 9-12 and 14-19 octal digits in both or spaces in both, 8, 13 and 20 spaces" }
      ∷ record { kind = codes "PlaceTwice"; wanted = codes "a place has a word in one line of a listing alone" }
      ∷ [];
  otherwise = codes "docs/SOURCE.md, Listing, has the kinds";
}

-- of a fault of a script
abbrev pub script : Hints
script = record {
  kinds =
      record { kind = codes "BadLine"; wanted = codes "this is read as a script: START p once, CELL c w and PORT p w come first, then STEP n, PULSE, SET p w, KEY k .., FEED, CYCLE n, SHOW REG, SHOW CELL c, SHOW OUT p and SHOW DEDA; p and c have 4 octal digits, w has 6, n is decimal, of 1 to 9 digits, k is 0 to 9, +, -, CLR, ENTR, RO or HOLD; the c of CELL is 0000 to 3777; a comment has # in column 1" }
      ∷ record { kind = codes "NoPort"; wanted = codes "PORT and SET name an input register of the machine, SHOW OUT an output one, and FEED needs the panel's; docs/MACHINE.md, Registers, has their addresses" }
      ∷ record { kind = codes "TooManySteps"; wanted = codes "the counts of all STEP lines, and 20,000 times those of all CYCLE lines, come to at most 100,000,000" }
      ∷ [];
  otherwise = codes "docs/SCRIPT.md, Faults, has the kinds";
}

-- of a fault of a bench script
abbrev pub bench_script : Hints
bench_script = record {
  kinds =
      record { kind = codes "BadLine"; wanted = codes "a line is STEP n, PULSE, CYCLE n, FEED i, DETACH i, SHOW REG, SHOW CELL c or SHOW OUT p, and no other" }
      ∷ record { kind = codes "NoPort"; wanted = codes "SHOW OUT names an output register of the machine; docs/MACHINE.md, Registers, has their addresses" }
      ∷ record { kind = codes "TooManySteps"; wanted = codes "the counts of all STEP lines, and 20,000 times those of all CYCLE lines, come to at most 100,000,000" }
      ∷ [];
  otherwise = codes "docs/BENCH.md, Scripts, has the kinds";
}

-- of a fault of a text of times
abbrev pub times : Hints
times = record {
  kinds =
      record { kind = codes "BadLine"; wanted = codes "a line is TIME r n, both of 1 to 5 digits, and END is last" }
      ∷ record { kind = codes "Version"; wanted = codes "line 1 is AGSTIME 1, and there is no other version" }
      ∷ record { kind = codes "Twice"; wanted = codes "a row has one TIME line at most" }
      ∷ record { kind = codes "NoRow"; wanted = codes "the r of TIME r n is the number of a row of the certificate, counted from 1" }
      ∷ record { kind = codes "TimeRange"; wanted = codes "the n of TIME r n, a row's bound, is 1 to 20,000 microseconds" }
      ∷ [];
  otherwise = codes "docs/TIMES.md, Faults, has the kinds";
}

-- of a fault of a text of scales
abbrev pub scales : Hints
scales = record {
  kinds =
      record { kind = codes "BadLine"; wanted = codes "a line is CELL c n, IN p n, OUT p n or ROW r a q, and END is last; c and p have 4 octal digits, n is -128 to 127, a and q are ANY, RAW or as n; IN and OUT name registers" }
      ∷ record { kind = codes "Version"; wanted = codes "line 1 is AGSSCALE 1, and there is no other version" }
      ∷ record { kind = codes "Twice"; wanted = codes "an address stands in one line at most of each of CELL, IN and OUT, and a row in one ROW line" }
      ∷ record { kind = codes "NoRow"; wanted = codes "the r of ROW r a q is the number of a row of the certificate, counted from 1" }
      ∷ [];
  otherwise = codes "docs/SCALES.md, Faults, has the kinds";
}

-- of a fault of a text of edits
abbrev pub edits : Hints
edits = record {
  kinds =
      record { kind = codes "BadLine"; wanted = codes "a line is WORD p w, CELL c value or ROW r p A .. (the row's number, then its location), with its AT and LINK lines after it, and END is last; p has 4 octal digits, w has 6; CELL, AT and LINK name erasable cells" }
      ∷ record { kind = codes "Version"; wanted = codes "line 1 is AGSEDIT 1, and there is no other version" }
      ∷ record { kind = codes "Twice"; wanted = codes "a cell stands in one AT line of a row, and a row has one LINK line at most" }
      ∷ record { kind = codes "EmptyRange"; wanted = codes "RANGE n m has the lesser value first: n is m or less" }
      ∷ record { kind = codes "TooManyAt"; wanted = codes "a row has at most 64 AT lines" }
      ∷ record { kind = codes "TooManyEdits"; wanted = codes "a text of edits has at most 10,000 edits" }
      ∷ [];
  otherwise = codes "docs/EDITS.md, Faults, has the kinds";
}

-- of a start or a word that a script sets and a certificate doesn't declare
abbrev pub outside : Hints
outside = record {
  kinds =
      record { kind = codes "START"; wanted = codes "the script starts where the certificate does: its START names that location, or it has none" }
      ∷ record { kind = codes "CELL"; wanted = codes "an erasable cell begins as its card's word, else as a word of its INIT line, and where neither is as 0" }
      ∷ record { kind = codes "PORT"; wanted = codes "an input register begins as a word of its IN line, and as 0 where no PORT line sets it" }
      ∷ record { kind = codes "IN"; wanted = codes "it is the script's first word, put by SET, FEED or CYCLE, that isn't one of its register's IN line: put another, or widen that; bin/ags-explain -g tells its line" }
      ∷ [];
  otherwise = codes "docs/SCRIPT.md, Guarded plays, has the kinds";
}

-- the same at the bench
abbrev pub bench_outside : Hints
bench_outside = record {
  kinds =
      record { kind = codes "CELL"; wanted = codes "a cell without a card's word begins as 0 at the bench, so its INIT line, where it has one, holds 0" }
      ∷ record { kind = codes "PORT"; wanted = codes "an input register begins as 0 at the bench, so its IN line, where it has one, holds 0" }
      ∷ record { kind = codes "IN"; wanted = codes "each word that a device gives is one of the IN line of the register that it feeds" }
      ∷ [];
  otherwise = codes "docs/BENCH.md, What stops a run, has the kinds";
}

-- the items of the verdict
abbrev pub items : List Hint
items =
    record { kind = codes "InitRange"; wanted = codes "a cell begins as a word of its CELL line: widen that, mend the card, or write INIT where no card has a word there" }
    ∷ record { kind = codes "StartUncovered"; wanted = codes "a row at the location of START, or at 4000 without it, has to hold 0 in A, Q, X and V, and the first word of each cell of its AT lines" }
    ∷ record { kind = codes "CodeUnknown"; wanted = codes "at an erasable cell at most 16 words may be run: name them by WORDS in an AT line of the row, or in CELL" }
    ∷ record { kind = codes "NoOrder"; wanted = codes "each word that is run has to be an order: let no way lead to another word, or state by AT which words a cell has that is run, in this row and in those that lead to it" }
    ∷ record { kind = codes "BadPort"; wanted = codes "INP names an input register of the machine, and OUT an output register; /2001 is octal, and 2001 decimal" }
    ∷ record { kind = codes "FixedWrite"; wanted = codes "a store goes to an erasable cell, 0000 to 3777: mend the address, or allow fewer words of a cell that is run" }
    ∷ record { kind = codes "MayOverflow"; wanted = codes "with these words the order overflows: narrow A in the row, or the cell by AT or CELL, or name the place by MAY" }
    ∷ record { kind = codes "CellRange"; wanted = codes "what is stored has to lie within the CELL line: widen that, or narrow A in the row (Q for STQ)" }
    ∷ record { kind = codes "OutputRange"; wanted = codes "what is given has to lie within the OUT line of the register: widen that, or narrow A in the row" }
    ∷ record { kind = codes "NotCovered"; wanted = codes "a row at NEXT has to hold all that this order leaves, where X and V here are from before it: in A, Q, X, V and the cells of its AT lines, and its LINK; bin/ags-explain tells what is left" }
    ∷ []

-- of an item of the verdict that fails
abbrev pub verdict : Hints
verdict = record { kinds = items; otherwise = codes "docs/CHECKER.md, The verdict, has the kinds" }

-- Of what comes of an edit: it isn't made, or an item of the verdict fails, or the verdict is certified, and then an edit before it
-- wasn't made.
abbrev pub edit : Hints
edit = record {
  kinds =
      record { kind = codes "NoRow"; wanted = codes "the r of ROW r is the number of a row of the certificate, counted from 1" }
      ∷ record { kind = codes "OutsideGlobal"; wanted = codes "each AT line of the new row is within its cell's limit, as the certificate and the edits before it say" }
      ∷ record { kind = codes "BelowUse"; wanted = codes "a new limit of a cell holds each word that the INIT line and the AT lines of all rows state of the cell" }
      ∷ record { kind = codes "FullLocation"; wanted = codes "at most 512 rows stand at one location, the new one among them" }
      ∷ items;
  otherwise = codes "an edit before this one isn't made: its line has NOTMADE";
}
