-- Believed with the theorem on the top call.
-- *Texts on the program itself*, and the words that ask for them.
use Rattle.std.specs.Prelude.{ℕ, Bool, ◌||◌, if◌then◌else◌, List, [], ◌∷◌, codes, nat_eq, Option, Some, None}
use Rattle.std.specs.List.{concat}
use Rattle.std.specs.Cmp.Lexicographic.{pointwise}
use Rattle.k_words.specs.declared.about.Asked.{Asked}
use Rattle.k_words.specs.declared.about.Asked.TheVariants.{Help, Version}

-- the word is this text
abbrev pub is : List ℕ → List ℕ → Bool
is word text = pointwise nat_eq word text

-- which text a word asks for
abbrev pub asked_by : List ℕ → Option Asked
asked_by word =
    if is word (codes "--help") || is word (codes "-h") then Some Help
    else if is word (codes "--version") || is word (codes "-V") then Some Version else None

-- which text the words ask for: there is one word
abbrev pub asked_for : List (List ℕ) → Option Asked
asked_for [] = None
asked_for (word ∷ []) = asked_by word
asked_for (word ∷ more ∷ words) = None

-- the product and its number
abbrev pub version_text : List ℕ
version_text = codes "kremlin 1.0.0\n"

-- what each command does, each option, each exit status, and two examples
abbrev pub help_text : List ℕ
help_text = concat (
    codes "kremlin: which loops of a serial C program are worth making parallel\n" ∷
    codes "\n" ∷
    codes "kremlin run FILE [OPTION ..]       runs a C program and writes its output, its profile and a plan\n" ∷
    codes "kremlin graph FILE [OPTION ..]     lists the events of the run and a heaviest path for each region instance\n" ∷
    codes "kremlin carried FILE [OPTION ..]   lists for each loop which places use what other places gave in an earlier turn\n" ∷
    codes "kremlin replay FILE [OPTION ..]    lets workers fire the operations of the run in any order and counts their rounds\n" ∷
    codes "kremlin page FILE [OPTION ..]      runs a C program and writes one page of HTML: its profile, its plan and its source\n" ∷
    codes "kremlin annotate FILE [OPTION ..]  runs a C program and writes its source with the numbers of each loop and OpenMP lines\n" ∷
    codes "kremlin show FILE [OPTION ..]      writes a saved profile or sum: its report, a JSON document, or its rows as CSV\n" ∷
    codes "kremlin merge OUT FILE FILE ..     saves the sum of 2 to 4096 saved profiles or sums of runs of one program\n" ∷
    codes "kremlin check FILE                 reads and checks a C program and does not run it; what is refused it shows in its line\n" ∷
    codes "kremlin demo NUMBER LOOPS          makes a program of LOOPS loops (1 to 2000) from NUMBER and sums up its run\n" ∷
    codes "kremlin --help, -h                 writes this text\n" ∷
    codes "kremlin --version, -V              writes the product and its number\n" ∷
    codes "\n" ∷
    codes "--steps=N       at most N operations; run, carried, page, annotate: 1 to 1000000000, default 100000000; graph, replay: 1 to 200000, default 200000\n" ∷
    codes "--depth=N       levels of regions that are tracked; run, graph, carried, replay, page, annotate: 1 to 32, default 24\n" ∷
    codes "--latency=FILE  a table of latencies in TOML; run, graph, carried, replay, page, annotate; default the standard latencies\n" ∷
    codes "--dict          lists the dictionary of summaries; run, page, show; default no list\n" ∷
    codes "--save=FILE     saves the profile; run; default not saved\n" ∷
    codes "--storage       lists for each loop also which places share storage between turns and hand nothing on; carried; default no list\n" ∷
    codes "--strict        marks only loops whose turns share no storage besides; annotate; default loops that hand nothing on\n" ∷
    codes "--workers=P     how many workers there are; replay: 1 to 16, default 4\n" ∷
    codes "--seed=S        the number that their order is drawn from; replay: 0 to 18446744073709551615, default 1\n" ∷
    codes "--json          writes a JSON document, with the dictionary by --dict; show; default the report\n" ∷
    codes "--csv           writes the rows as CSV, and takes neither --dict nor --json; show; default the report\n" ∷
    codes "\n" ∷
    codes "exit status:\n" ∷
    codes " 0  done\n" ∷
    codes " 1  the program came to a trap\n" ∷
    codes " 2  out of steps\n" ∷
    codes " 3  the source was refused\n" ∷
    codes " 4  wrong words\n" ∷
    codes " 5  a file is absent\n" ∷
    codes " 6  a read failed\n" ∷
    codes " 7  a write failed\n" ∷
    codes " 8  no memory\n" ∷
    codes " 9  the input is too long\n" ∷
    codes "10  the latency table was refused\n" ∷
    codes "11  a saved file was refused\n" ∷
    codes "12  a file is too long\n" ∷
    codes "\n" ∷
    codes "examples:\n" ∷
    codes "kremlin run matrix.c --save=matrix.profile\n" ∷
    codes "kremlin show matrix.profile --dict\n" ∷
    [])
