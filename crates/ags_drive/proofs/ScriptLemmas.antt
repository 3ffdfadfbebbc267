-- Acts of loops and scripts, one piece after another. The proofs of the loops cite:
--     steps_next, positions_next, cycles_next    lists of acts that grow by a piece at their end
--     piece_more, piece_unmade                a piece after those before it, and one that wasn't made to its end
--     pieces_all                              all pieces
--     line_located, lines_more, lines_unmade, lines_all    the same of a script's lines
--     kind_made, kind_unmade                  a command by its kind
--     script_made, script_unshown, script_unmade    a script's lines, and the lines at the end
use Rattle.std.proofs.Common.{◌≡◌, ℕ, zero, suc, ◌+◌, ◌-◌, ◌<◌, ◌≤◌, List, [], ◌∷◌, ◌++◌, All, length, take, drop, get_or, replicate, refl, sym, ap, subst, ◌∙◌, append_assoc, append-nil, add-one, arith}
use Rattle.std.specs.Prelude.{slice_get, Option, Some}
use Rattle.std.proofs.lemmas.Grind.{flat_map-append}
use Rattle.std.proofs.lemmas.Option.{slice_get_within, get_or_from_slice_get}
use Rattle.std.proofs.lemmas.List.{take_more, take_all, take-append-drop, drop_more}
use Rattle.ags_drive.specs.Act.{Act, MakesStep, Pulses, RunsCycle, FeedsInCycle, ShowsDevice, at_each, cycles, acts_of, acts_of_command, acts_of_script}
use Rattle.ags_drive.specs.Bench as play
use Rattle.ags_benchscript.specs.declared.commands.BenchCommand.{BenchCommand}
use Rattle.ags_device.specs.Record.{DeviceRecord}
use Rattle.ags_domain.specs.declared.values.Value.{Value}
use Rattle.ags_ports.specs.declared.machines.Machine.{Machine}
use Rattle.ags_safe.specs.Certificate.{Certificate}
use Rattle.ags_drive.specs.declared.benches.Bench.{Bench}
use Rattle.ags_drive.specs.declared.drive_error.DriveError.{DriveError}
use Rattle.ags_drive.specs.Making.{Made, Unmade}
use Rattle.ags_drive.specs.Standing.{bench_of}
use Rattle.ags_drive.proofs.JoinLemmas.{made_on, unmade_after, unmade_before}

-- ---- lists of acts that grow at their end

-- each list is the one before it, with a piece after it
abbrev pub Grows : (acts piece : ℕ → List Act) → Type 0
Grows acts piece = (n : ℕ) → acts (suc n) ≡ acts n ++ piece n

pub steps_next : Grows (λ n. replicate n MakesStep) (λ n. MakesStep ∷ [])
steps_next zero = refl
steps_next (suc n) = ap (λ (acts : List Act). MakesStep ∷ acts) (steps_next n)

pub positions_next : (act : ℕ → Act) → Grows (at_each act) (λ n. act n ∷ [])
positions_next act n = refl

-- the acts of one cycle
abbrev pub one_cycle : (positions : ℕ) → List Act
one_cycle positions = at_each FeedsInCycle positions ++ Pulses ∷ RunsCycle ∷ []

pub cycles_next : (positions : ℕ) → Grows (cycles positions) (λ n. one_cycle positions)
cycles_next positions zero = append-nil (one_cycle positions)
cycles_next positions (suc n) = ap (λ (acts : List Act). one_cycle positions ++ acts) (cycles_next positions n) ∙ sym (append_assoc (one_cycle positions) (cycles positions n) (one_cycle positions))

module _ (acts piece : ℕ → List Act) (next : Grows acts piece) where
  grown_by : (few more : ℕ) → (others : List Act) × (acts (few + more) ≡ acts few ++ others)
  grown_by few zero = ([], ap (λ n. acts n) (let e : few + zero ≡ few = omega arith in e) ∙ sym (append-nil (acts few)))
  grown_by few (suc more) =
      let earlier = grown_by few more in (
        earlier.0 ++ piece (few + more),
        ap (λ n. acts n) (let e : few + suc more ≡ suc (few + more) = omega arith in e) ∙ next (few + more)
            ∙ ap (λ (xs : List Act). xs ++ piece (few + more)) earlier.1 ∙ append_assoc (acts few) earlier.0 (piece (few + more)),
      )

  grown_to : (few count : ℕ) → few ≤ count → (others : List Act) × (acts count ≡ acts few ++ others)
  grown_to few count below =
      let split = grown_by few (count - few) in
      (split.0, ap (λ n. acts n) (let e : count ≡ few + (count - few) = omega arith in e) ∙ split.1)

  module _ (machine : Machine) (cert : Certificate Value) where
    pub piece_more : (n : ℕ) (old between new : Option (List ℕ)) (before mid after : Bench) (devices during now : List DeviceRecord) → Made machine cert (acts n) old between before mid devices during
        → Made machine cert (piece n) between new mid after during now → Made machine cert (acts (n + 1)) old new before after devices now
    piece_more n old between new before mid after devices during now p q =
        subst (λ (xs : List Act). Made machine cert xs old new before after devices now) (sym (next n) ∙ ap (λ m. acts m) (sym (add-one n)))
        (made_on machine cert (acts n) (piece n) old between new before mid after devices during now p q)

    pub piece_unmade : (n count : ℕ) (old between new : Option (List ℕ)) (before mid : Bench) (devices during now : List DeviceRecord) (met : DriveError) → n < count
        → Made machine cert (acts n) old between before mid devices during → Unmade machine cert (bench_of mid during) (piece n) between new now met → Unmade machine cert (bench_of before devices) (acts count) old new now met
    piece_unmade n count old between new before mid devices during now met below p q =
        let split = grown_to (suc n) count (omega arith) in
        let part = subst (λ (xs : List Act). Unmade machine cert (bench_of before devices) xs old new now met) (sym (next n))
        (unmade_after machine cert (acts n) (piece n) old between new before mid devices during now met p q) in
        subst (λ (xs : List Act). Unmade machine cert (bench_of before devices) xs old new now met) (sym split.1)
        (unmade_before machine cert (bench_of before devices) (acts (suc n)) split.0 old new now met part)

    pub pieces_all : (n count : ℕ) (old new : Option (List ℕ)) (before after : Bench) (devices now : List DeviceRecord) → n ≡ count → Made machine cert (acts n) old new before after devices now
        → Made machine cert (acts count) old new before after devices now
    pieces_all n count old new before after devices now all p = subst (λ (m : ℕ). Made machine cert (acts m) old new before after devices now) all p

-- ---- a script's lines

abbrev Line : Type 0
Line = ℕ × BenchCommand

abbrev acts_of_line : (positions : ℕ) → Line → List Act
acts_of_line positions line = acts_of_command positions line.0 line.1

acts_of-append : (positions : ℕ) (first second : List Line) → acts_of positions (first ++ second) ≡ acts_of positions first ++ acts_of positions second
acts_of-append positions first second = flat_map-append (acts_of_line positions) first second

-- what stands at a position is read there with any default
read_at : (lines : List Line) (position : ℕ) (line : Line) → slice_get lines position ≡ Some line
    → (position < length lines) × (get_or lines position line ≡ line)
read_at lines position line found = (slice_get_within lines position line found, get_or_from_slice_get lines position line line found)

-- the lines up to a position with the one that stands there
acts_taken : (positions : ℕ) (lines : List Line) (position : ℕ) (line : Line) → slice_get lines position ≡ Some line → acts_of positions (take position lines) ++ acts_of_line positions line ≡ acts_of positions (take (position + 1) lines)
acts_taken positions lines position line found =
    let at = read_at lines position line found in
    let more = take_more lines position line at.0 ∙ ap (λ (l : Line). take position lines ++ l ∷ []) at.1 in
    ap (λ (acts : List Act). acts_of positions (take position lines) ++ acts) (sym (append-nil (acts_of_line positions line)))
    ∙ sym (acts_of-append positions (take position lines) (line ∷ [])) ∙ ap (λ (ls : List Line). acts_of positions ls) (sym more)

acts_cut : (positions : ℕ) (lines : List Line) (position : ℕ) (line : Line) → slice_get lines position ≡ Some line
    → acts_of positions (take position lines) ++ (acts_of_line positions line ++ acts_of positions (drop (position + 1) lines)) ≡ acts_of positions lines
acts_cut positions lines position line found =
    let at = read_at lines position line found in
    let cut : drop position lines ≡ line ∷ drop (position + 1) lines =
    drop_more lines position line at.0 ∙ ap (λ (l : Line). l ∷ drop (position + 1) lines) at.1 in
    sym (acts_of-append positions (take position lines) (line ∷ drop (position + 1) lines)) ∙ ap (λ (rest : List Line). acts_of positions (take position lines ++ rest)) (sym cut)
    ∙ ap (λ (ls : List Line). acts_of positions ls) (take-append-drop position lines)

pub line_located : (P : Line → Type 0) (lines : List Line) (position : ℕ) (line : Line) → All P lines → slice_get lines position ≡ Some line → P line
line_located P lines position line all found = let at = read_at lines position line found in subst P at.1 (all position line at.0)

module _ (machine : Machine) (cert : Certificate Value) (positions : ℕ) (lines : List Line) where
  pub lines_more : (position : ℕ) (line : Line) (old between new : Option (List ℕ)) (before mid after : Bench) (devices during now : List DeviceRecord) → slice_get lines position ≡ Some line
      → Made machine cert (acts_of positions (take position lines)) old between before mid devices during → Made machine cert (acts_of_command positions line.0 line.1) between new mid after during now
      → Made machine cert (acts_of positions (take (position + 1) lines)) old new before after devices now
  lines_more position line old between new before mid after devices during now found p q =
      subst (λ (xs : List Act). Made machine cert xs old new before after devices now) (acts_taken positions lines position line found)
      (made_on machine cert (acts_of positions (take position lines)) (acts_of_line positions line) old between new before mid after devices during now p q)

  pub lines_unmade : (position : ℕ) (line : Line) (old between new : Option (List ℕ)) (before mid : Bench) (devices during now : List DeviceRecord) (met : DriveError) → slice_get lines position ≡ Some line
      → Made machine cert (acts_of positions (take position lines)) old between before mid devices during → Unmade machine cert (bench_of mid during) (acts_of_command positions line.0 line.1) between new now met
      → Unmade machine cert (bench_of before devices) (acts_of positions lines) old new now met
  lines_unmade position line old between new before mid devices during now met found p q =
      let acts = acts_of_line positions line in
      let rest = acts_of positions (drop (position + 1) lines) in
      subst (λ (xs : List Act). Unmade machine cert (bench_of before devices) xs old new now met) (acts_cut positions lines position line found)
      (unmade_after machine cert (acts_of positions (take position lines)) (acts ++ rest) old between new before mid devices during now met p
      (unmade_before machine cert (bench_of mid during) acts rest between new now met q))

  pub lines_all : (position : ℕ) (old new : Option (List ℕ)) (before after : Bench) (devices now : List DeviceRecord) → length lines ≤ position → Made machine cert (acts_of positions (take position lines)) old new before after devices now
      → Made machine cert (acts_of positions lines) old new before after devices now
  lines_all position old new before after devices now past p =
      subst (λ (all : List Line). Made machine cert (acts_of positions all) old new before after devices now) (take_all position lines past) p

-- ---- a command by its kind

module _ (machine : Machine) (cert : Certificate Value) (positions line : ℕ) (command kind : BenchCommand) (same : command ≡ kind) where
  pub kind_made : (old new : Option (List ℕ)) (before after : Bench) (devices now : List DeviceRecord) → Made machine cert (acts_of_command positions line kind) old new before after devices now
      → Made machine cert (acts_of_command positions line command) old new before after devices now
  kind_made old new before after devices now p = subst (λ (c : BenchCommand). Made machine cert (acts_of_command positions line c) old new before after devices now) (sym same) p

  pub kind_unmade : (b : play.Bench) (old new : Option (List ℕ)) (now : List DeviceRecord) (met : DriveError) → Unmade machine cert b (acts_of_command positions line kind) old new now met
      → Unmade machine cert b (acts_of_command positions line command) old new now met
  kind_unmade b old new now met p = subst (λ (c : BenchCommand). Unmade machine cert b (acts_of_command positions line c) old new now met) (sym same) p

-- ---- a whole script, over as many positions as there are devices

module _ (machine : Machine) (cert : Certificate Value) (positions count : ℕ) (counted : positions ≡ count) (lines : List Line) where
  pub script_made : (old between new : Option (List ℕ)) (before mid after : Bench) (devices during now : List DeviceRecord) → Made machine cert (acts_of positions lines) old between before mid devices during
      → Made machine cert (at_each ShowsDevice positions) between new mid after during now → Made machine cert (acts_of_script count lines) old new before after devices now
  script_made old between new before mid after devices during now p q =
      subst (λ (n : ℕ). Made machine cert (acts_of_script n lines) old new before after devices now) counted
      (made_on machine cert (acts_of positions lines) (at_each ShowsDevice positions) old between new before mid after devices during now p q)

  pub script_unshown : (old between new : Option (List ℕ)) (before mid : Bench) (devices during now : List DeviceRecord) (met : DriveError) → Made machine cert (acts_of positions lines) old between before mid devices during
      → Unmade machine cert (bench_of mid during) (at_each ShowsDevice positions) between new now met → Unmade machine cert (bench_of before devices) (acts_of_script count lines) old new now met
  script_unshown old between new before mid devices during now met p q =
      subst (λ (n : ℕ). Unmade machine cert (bench_of before devices) (acts_of_script n lines) old new now met) counted
      (unmade_after machine cert (acts_of positions lines) (at_each ShowsDevice positions) old between new before mid devices during now met p q)

  pub script_unmade : (b : play.Bench) (old new : Option (List ℕ)) (now : List DeviceRecord) (met : DriveError) → Unmade machine cert b (acts_of positions lines) old new now met → Unmade machine cert b (acts_of_script count lines) old new now met
  script_unmade b old new now met p =
      subst (λ (n : ℕ). Unmade machine cert b (acts_of_script n lines) old new now met) counted
      (unmade_before machine cert b (acts_of positions lines) (at_each ShowsDevice positions) old new now met p)
