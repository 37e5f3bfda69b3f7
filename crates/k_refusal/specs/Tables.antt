-- Believed with the theorem on the top call.
-- Words and marks that tell more than the refusal that stands at them, each with the sentence for it.
use Rattle.std.specs.Prelude.{ℕ, List, [], ◌∷◌, Option, Some, None, nat_eq, if◌then◌else◌, codes}
use Rattle.std.specs.Borrow.{Bor}
use Rattle.std.specs.Cmp.Lexicographic.{pointwise}
use Rattle.k_refusal.specs.declared.sentence.Sentence.{Sentence}
use Rattle.k_refusal.specs.declared.sentence.Sentence.TheVariants as says
use Rattle.k_refusal.specs.declared.sentence.Directive.TheVariants as directive_says
use Rattle.k_refusal.specs.declared.sentence.Header.TheVariants as header_says
use Rattle.k_refusal.specs.declared.sentence.Kinds.TheVariants as kinds_says
use Rattle.k_refusal.specs.declared.sentence.LeftOut.TheVariants as left_out_says
use Rattle.k_refusal.specs.declared.sentence.Library.TheVariants as library_says
use Rattle.k_refusal.specs.declared.sentence.Name.TheVariants as name_says
use Rattle.k_refusal.specs.declared.sentence.StrayMark.TheVariants as stray_mark_says
use Rattle.k_refusal.specs.declared.sentence.StrayWord.TheVariants as stray_word_says

-- the sentence of the first row with this word
abbrev pub look_up : List (List ℕ × Sentence) → List ℕ → Option Sentence
look_up [] word = None
look_up (row ∷ rows) word = if pointwise nat_eq row.0 word then Some row.1 else look_up rows word

-- a row of a table of the code
abbrev pub row : Bor (List ℕ) × Sentence → List ℕ × Sentence
row r = (r.0.now, r.1)

-- the keywords that are left out (C17 6.4.1)
abbrev pub left_out_words : List (List ℕ × Sentence)
left_out_words =
    (codes "double", says.LeftOut left_out_says.Floating) ∷
    (codes "float", says.LeftOut left_out_says.Floating) ∷
    (codes "struct", says.LeftOut left_out_says.StructOrUnion) ∷
    (codes "union", says.LeftOut left_out_says.StructOrUnion) ∷
    (codes "enum", says.LeftOut left_out_says.Enumeration) ∷
    (codes "typedef", says.LeftOut left_out_says.TypeName) ∷
    (codes "goto", says.LeftOut left_out_says.Goto) ∷
    (codes "extern", says.LeftOut left_out_says.External) ∷
    (codes "inline", says.LeftOut left_out_says.Inline) ∷
    (codes "volatile", says.LeftOut left_out_says.Qualifier) ∷
    (codes "register", says.LeftOut left_out_says.Qualifier) ∷
    (codes "restrict", says.LeftOut left_out_says.Qualifier) ∷
    (codes "auto", says.LeftOut left_out_says.Qualifier) ∷
    (codes "_Bool", says.LeftOut left_out_says.BoolWord) ∷
    (codes "_Alignas", says.LeftOut left_out_says.OtherWord) ∷
    (codes "_Alignof", says.LeftOut left_out_says.OtherWord) ∷
    (codes "_Atomic", says.LeftOut left_out_says.OtherWord) ∷
    (codes "_Complex", says.LeftOut left_out_says.OtherWord) ∷
    (codes "_Generic", says.LeftOut left_out_says.OtherWord) ∷
    (codes "_Imaginary", says.LeftOut left_out_says.OtherWord) ∷
    (codes "_Noreturn", says.LeftOut left_out_says.OtherWord) ∷
    (codes "_Static_assert", says.LeftOut left_out_says.OtherWord) ∷
    (codes "_Thread_local", says.LeftOut left_out_says.OtherWord) ∷
    []

-- `main`, and the other keywords, which stand elsewhere
abbrev pub accepted_words : List (List ℕ × Sentence)
accepted_words =
    (codes "main", says.StrayWord stray_word_says.StrayMain) ∷
    (codes "else", says.StrayWord stray_word_says.LoneElse) ∷
    (codes "case", says.StrayWord stray_word_says.DeepLabel) ∷
    (codes "default", says.StrayWord stray_word_says.DeepLabel) ∷
    (codes "void", says.StrayWord stray_word_says.StrayDeclaration) ∷
    (codes "char", says.StrayWord stray_word_says.StrayDeclaration) ∷
    (codes "short", says.StrayWord stray_word_says.StrayDeclaration) ∷
    (codes "int", says.StrayWord stray_word_says.StrayDeclaration) ∷
    (codes "long", says.StrayWord stray_word_says.StrayDeclaration) ∷
    (codes "signed", says.StrayWord stray_word_says.StrayDeclaration) ∷
    (codes "unsigned", says.StrayWord stray_word_says.StrayDeclaration) ∷
    (codes "const", says.StrayWord stray_word_says.StrayDeclaration) ∷
    (codes "static", says.StrayWord stray_word_says.StrayDeclaration) ∷
    (codes "break", says.StrayWord stray_word_says.StrayStatement) ∷
    (codes "continue", says.StrayWord stray_word_says.StrayStatement) ∷
    (codes "do", says.StrayWord stray_word_says.StrayStatement) ∷
    (codes "for", says.StrayWord stray_word_says.StrayStatement) ∷
    (codes "if", says.StrayWord stray_word_says.StrayStatement) ∷
    (codes "return", says.StrayWord stray_word_says.StrayStatement) ∷
    (codes "sizeof", says.StrayWord stray_word_says.StrayStatement) ∷
    (codes "switch", says.StrayWord stray_word_says.StrayStatement) ∷
    (codes "while", says.StrayWord stray_word_says.StrayStatement) ∷
    []

-- the first bytes of marks
abbrev pub marks : List (List ℕ × Sentence)
marks =
    (codes "}", says.StrayMark stray_mark_says.StrayClosingBrace) ∷
    (codes "{", says.StrayMark stray_mark_says.StrayOpeningBrace) ∷
    (codes "(", says.StrayMark stray_mark_says.StrayParenthesis) ∷
    (codes "[", says.StrayMark stray_mark_says.StrayBracket) ∷
    (codes ":", says.StrayMark stray_mark_says.StrayColon) ∷
    []

-- the words of directives
abbrev pub directives : List (List ℕ × Sentence)
directives =
    (codes "if", says.Directive directive_says.Conditional) ∷
    (codes "ifdef", says.Directive directive_says.Conditional) ∷
    (codes "ifndef", says.Directive directive_says.Conditional) ∷
    (codes "elif", says.Directive directive_says.Conditional) ∷
    (codes "else", says.Directive directive_says.Conditional) ∷
    (codes "endif", says.Directive directive_says.Conditional) ∷
    (codes "undef", says.Directive directive_says.Undef) ∷
    (codes "include", says.Directive directive_says.IncludeForm) ∷
    []

-- the headers that are left out, by what stands before `.h`
abbrev pub headers : List (List ℕ × Sentence)
headers =
    (codes "math", says.Header header_says.MathHeader) ∷
    (codes "string", says.Header header_says.StringHeader) ∷
    (codes "stdbool", says.Header header_says.BoolHeader) ∷
    (codes "stdint", says.Header header_says.WidthHeader) ∷
    (codes "inttypes", says.Header header_says.WidthHeader) ∷
    (codes "ctype", says.Header header_says.CharacterHeader) ∷
    []

-- names of the library that are left out
abbrev pub library : List (List ℕ × Sentence)
library =
    (codes "malloc", says.Library library_says.Heap) ∷
    (codes "calloc", says.Library library_says.Heap) ∷
    (codes "realloc", says.Library library_says.Heap) ∷
    (codes "free", says.Library library_says.Heap) ∷
    (codes "NULL", says.Library library_says.NullPointer) ∷
    (codes "scanf", says.Library library_says.OtherInput) ∷
    (codes "sscanf", says.Library library_says.OtherInput) ∷
    (codes "fscanf", says.Library library_says.OtherInput) ∷
    (codes "getc", says.Library library_says.LineInput) ∷
    (codes "fgetc", says.Library library_says.LineInput) ∷
    (codes "gets", says.Library library_says.LineInput) ∷
    (codes "fgets", says.Library library_says.LineInput) ∷
    (codes "exit", says.Library library_says.Exit) ∷
    (codes "abort", says.Library library_says.Exit) ∷
    (codes "EXIT_FAILURE", says.Library library_says.ExitStatus) ∷
    (codes "EXIT_SUCCESS", says.Library library_says.ExitStatus) ∷
    (codes "FILE", says.Library library_says.Streams) ∷
    (codes "stdin", says.Library library_says.LineInput) ∷
    (codes "stdout", says.Library library_says.Streams) ∷
    (codes "stderr", says.Library library_says.Streams) ∷
    (codes "fopen", says.Library library_says.Streams) ∷
    (codes "fclose", says.Library library_says.Streams) ∷
    (codes "fflush", says.Library library_says.Streams) ∷
    (codes "fprintf", says.Library library_says.Streams) ∷
    (codes "sprintf", says.Library library_says.Streams) ∷
    (codes "snprintf", says.Library library_says.Streams) ∷
    (codes "fputs", says.Library library_says.Streams) ∷
    (codes "fputc", says.Library library_says.Streams) ∷
    (codes "putc", says.Library library_says.Streams) ∷
    (codes "perror", says.Library library_says.Streams) ∷
    []

-- more of them
abbrev pub more_library : List (List ℕ × Sentence)
more_library =
    (codes "strlen", says.Library library_says.StringFunction) ∷
    (codes "strcpy", says.Library library_says.StringFunction) ∷
    (codes "strncpy", says.Library library_says.StringFunction) ∷
    (codes "strcmp", says.Library library_says.StringFunction) ∷
    (codes "strncmp", says.Library library_says.StringFunction) ∷
    (codes "strcat", says.Library library_says.StringFunction) ∷
    (codes "memcpy", says.Library library_says.StringFunction) ∷
    (codes "memset", says.Library library_says.StringFunction) ∷
    (codes "atoi", says.Library library_says.StringFunction) ∷
    (codes "rand", says.Library library_says.RandomOrTime) ∷
    (codes "srand", says.Library library_says.RandomOrTime) ∷
    (codes "time", says.Library library_says.RandomOrTime) ∷
    (codes "clock", says.Library library_says.RandomOrTime) ∷
    (codes "sqrt", says.Library library_says.MathFunction) ∷
    (codes "pow", says.Library library_says.MathFunction) ∷
    (codes "sin", says.Library library_says.MathFunction) ∷
    (codes "cos", says.Library library_says.MathFunction) ∷
    (codes "floor", says.Library library_says.MathFunction) ∷
    (codes "fabs", says.Library library_says.MathFunction) ∷
    (codes "abs", says.Library library_says.MathFunction) ∷
    (codes "bool", says.Library library_says.BoolName) ∷
    (codes "true", says.Library library_says.BoolName) ∷
    (codes "false", says.Library library_says.BoolName) ∷
    (codes "EOF", says.Name name_says.NeedsStdio) ∷
    (codes "size_t", says.Name name_says.NeedsStddef) ∷
    (codes "INT_MIN", says.Name name_says.NeedsLimits) ∷
    (codes "INT_MAX", says.Name name_says.NeedsLimits) ∷
    (codes "UINT_MAX", says.Name name_says.NeedsLimits) ∷
    (codes "LONG_MIN", says.Name name_says.NeedsLimits) ∷
    (codes "LONG_MAX", says.Name name_says.NeedsLimits) ∷
    (codes "ULONG_MAX", says.Name name_says.NeedsLimits) ∷
    []

-- the words at which types do not fit: a parameter begins with those of its type
abbrev pub words_of_kinds : List (List ℕ × Sentence)
words_of_kinds =
    (codes "void", says.Kinds kinds_says.ParameterKind) ∷
    (codes "char", says.Kinds kinds_says.ParameterKind) ∷
    (codes "short", says.Kinds kinds_says.ParameterKind) ∷
    (codes "int", says.Kinds kinds_says.ParameterKind) ∷
    (codes "long", says.Kinds kinds_says.ParameterKind) ∷
    (codes "signed", says.Kinds kinds_says.ParameterKind) ∷
    (codes "unsigned", says.Kinds kinds_says.ParameterKind) ∷
    (codes "const", says.Kinds kinds_says.ParameterKind) ∷
    (codes "static", says.Kinds kinds_says.ParameterKind) ∷
    (codes "if", says.Kinds kinds_says.Condition) ∷
    (codes "while", says.Kinds kinds_says.Condition) ∷
    (codes "do", says.Kinds kinds_says.Condition) ∷
    (codes "for", says.Kinds kinds_says.Condition) ∷
    (codes "switch", says.Kinds kinds_says.Condition) ∷
    (codes "return", says.Kinds kinds_says.ResultKind) ∷
    []
