-- Believed with the theorem on the top call.
-- The sentences that tell why a source is refused, and what to write in its place.
use Rattle.std.specs.Prelude.{ℕ, List, codes}
use Rattle.k_refusal.specs.declared.sentence.Sentence.{Sentence}
use Rattle.k_refusal.specs.declared.sentence.Sentence.TheVariants as says
use Rattle.k_refusal.specs.declared.sentence.Token.{Token}
use Rattle.k_refusal.specs.declared.sentence.Token.TheVariants as token_says
use Rattle.k_refusal.specs.declared.sentence.Directive.{Directive}
use Rattle.k_refusal.specs.declared.sentence.Directive.TheVariants as directive_says
use Rattle.k_refusal.specs.declared.sentence.Header.{Header}
use Rattle.k_refusal.specs.declared.sentence.Header.TheVariants as header_says
use Rattle.k_refusal.specs.declared.sentence.Limit.{Limit}
use Rattle.k_refusal.specs.declared.sentence.Limit.TheVariants as limit_says
use Rattle.k_refusal.specs.declared.sentence.LeftOut.{LeftOut}
use Rattle.k_refusal.specs.declared.sentence.LeftOut.TheVariants as left_out_says
use Rattle.k_refusal.specs.declared.sentence.StrayWord.{StrayWord}
use Rattle.k_refusal.specs.declared.sentence.StrayWord.TheVariants as stray_word_says
use Rattle.k_refusal.specs.declared.sentence.StrayMark.{StrayMark}
use Rattle.k_refusal.specs.declared.sentence.StrayMark.TheVariants as stray_mark_says
use Rattle.k_refusal.specs.declared.sentence.Library.{Library}
use Rattle.k_refusal.specs.declared.sentence.Library.TheVariants as library_says
use Rattle.k_refusal.specs.declared.sentence.Name.{Name}
use Rattle.k_refusal.specs.declared.sentence.Name.TheVariants as name_says
use Rattle.k_refusal.specs.declared.sentence.Kinds.{Kinds}
use Rattle.k_refusal.specs.declared.sentence.Kinds.TheVariants as kinds_says
use Rattle.k_refusal.specs.declared.sentence.Usage.{Usage}
use Rattle.k_refusal.specs.declared.sentence.Usage.TheVariants as usage_says

-- of bytes that make no token
unfoldable pub token_text : Token → List ℕ
token_text token_says.StrayByte = codes "this byte begins no token of C"
token_text token_says.Member = codes "`.` is left out, with struct and union: write a variable or an array for each member"
token_text token_says.Backslash = codes "a backslash stands in strings and character constants alone: lines that it joins are left out"
token_text token_says.LateHash = codes "a `#` stands first in its line alone"
token_text token_says.NotAscii = codes "a byte that is no ASCII stands in comments and strings alone: look for quotes, dashes and blanks that an editor made"
token_text token_says.OpenComment = codes "this comment is not closed: put `*/` behind it"
token_text token_says.OpenString = codes "this string has no closing quote in its line"
token_text token_says.NotOneCharacter = codes "a character constant is one character or escape between its quotes: text stands between double quotes"
token_text token_says.BadEscape = codes "this backslash begins no escape of C, or one with a value above 255: write two of them for a backslash"
token_text token_says.PointInNumber = codes "numbers with a point or an exponent are left out, with floating point: count in whole numbers, as in thousandths"
token_text token_says.NoConstant = codes "this is no integer constant of at most 64 bits: write digits, or 0x and digits, with u, l or ll behind them where needed"

-- of directives, but for headers
unfoldable pub directive_text : Directive → List ℕ
directive_text directive_says.MacroParameters = codes "a macro with parameters is left out: write a function"
directive_text directive_says.DefineForm = codes "a macro is defined by `#define NAME TOKENS`, and NAME is no keyword"
directive_text directive_says.Conditional = codes "`#if` and its kin are left out: keep the lines that are wanted"
directive_text directive_says.Undef = codes "`#undef` is left out: give each macro a name of its own"
directive_text directive_says.IncludeForm = codes "a header is included by `#include <stdio.h>`, with nothing behind it in its line"
directive_text directive_says.OtherDirective = codes "the directives are `#define NAME TOKENS`, `#include <HEADER>` and `#pragma`"
directive_text directive_says.MacroOrder = codes "this macro stands in its own body, or in that of an earlier one: define it before those that use it"
directive_text directive_says.MacroAgain = codes "this macro is defined a second time, by other tokens: give it another name"

-- of headers that are left out
unfoldable pub header_text : Header → List ℕ
header_text header_says.OwnHeader = codes "a header in quotes is left out: put its text into this file"
header_text header_says.MathHeader = codes "<math.h> is left out, with floating point: compute in whole numbers"
header_text header_says.StringHeader = codes "<string.h> is left out: write a loop over the array"
header_text header_says.BoolHeader = codes "<stdbool.h> is left out: write int, 1 and 0"
header_text header_says.WidthHeader = codes "this header is left out: char, short, int and long have 8, 16, 32 and 64 bits"
header_text header_says.CharacterHeader = codes "<ctype.h> is left out: compare characters, as in c >= '0' && c <= '9'"
header_text header_says.OtherHeader = codes "this header is left out: there are <stdio.h>, <stdlib.h>, <stddef.h> and <limits.h>"

-- of limits on sources
unfoldable pub limit_text : Limit → List ℕ
limit_text limit_says.SourceLong = codes "the source has more than 1048576 bytes"
limit_text limit_says.TokensMany = codes "the source has more than 400000 tokens behind its macros, or 4194304 bytes of them"
limit_text limit_says.TooDeep = codes "statements, initialisers and expressions nest more than 200 deep here"
limit_text limit_says.NodesMany = codes "the source has more than 262144 declarators, statements and expressions"

-- of keywords that are left out
unfoldable pub left_out_text : LeftOut → List ℕ
left_out_text left_out_says.Floating = codes "`double` and `float` are left out: count in whole numbers, as in thousandths"
left_out_text left_out_says.StructOrUnion = codes "`struct` and `union` are left out: write a variable or an array for each member"
left_out_text left_out_says.Enumeration = codes "`enum` is left out: write `#define` for each constant"
left_out_text left_out_says.TypeName = codes "`typedef` is left out: write the type itself"
left_out_text left_out_says.Goto = codes "`goto` is left out: write a loop with `break`, or a function with `return`"
left_out_text left_out_says.External = codes "`extern` is left out: define the object or the function in this file"
left_out_text left_out_says.Inline = codes "`inline` is left out: leave the word away"
left_out_text left_out_says.Qualifier = codes "`volatile`, `register`, `restrict` and `auto` are left out: leave the word away"
left_out_text left_out_says.BoolWord = codes "`_Bool` is left out: write int, 1 and 0"
left_out_text left_out_says.OtherWord = codes "this word of C is left out"

-- of the end and of words that can't stand where they do
unfoldable pub stray_word_text : StrayWord → List ℕ
stray_word_text stray_word_says.EndsEarly = codes "the source ends here: a `}`, a `)` or a `;` is missing before"
stray_word_text stray_word_says.LoneElse = codes "no `if` waits for this `else`: put braces round its statements, and no `;` behind its condition"
stray_word_text stray_word_says.DeepLabel = codes "`case` and `default` stand directly in the braces of a `switch`"
stray_word_text stray_word_says.StrayDeclaration = codes "no declaration begins here: a `;` or a brace may be missing before it, or braces around it"
stray_word_text stray_word_says.StrayStatement = codes "this word can't stand here: a `;`, a `)` or a brace may be missing before it"
stray_word_text stray_word_says.StrayMain = codes "a function begins with the type of its result: write int main(void)"
stray_word_text stray_word_says.StrayName = codes "this name can't stand here: an operator, a `;` or a brace may be missing before it, or the word before it is no type"
stray_word_text stray_word_says.StaticSize = codes "`static` between brackets is left out: write the size alone"
stray_word_text stray_word_says.StrayNumber = codes "this number can't stand here: an operator, a `;` or a bracket may be missing before it"

-- of marks and literals that can't stand where they do
unfoldable pub stray_mark_text : StrayMark → List ℕ
stray_mark_text stray_mark_says.StrayClosingBrace = codes "this `}` can't stand here: a `;` may be missing before it"
stray_mark_text stray_mark_says.StrayOpeningBrace = codes "this `{` can't stand here: compound literals are left out, as (int){1}"
stray_mark_text stray_mark_says.StrayParenthesis = codes "this `(` can't stand here: pointers to functions and functions in functions are left out; a call names its function"
stray_mark_text stray_mark_says.PointerToArray = codes "pointers to arrays are left out: a parameter is written as an array of rows, as int rows[][4], and a variable as a number that tells which"
stray_mark_text stray_mark_says.StrayBracket = codes "this `[` can't stand here: designators are left out"
stray_mark_text stray_mark_says.StrayColon = codes "this `:` can't stand here: labels are left out, with goto: write a loop with `break` or `continue`"
stray_mark_text stray_mark_says.Arrow = codes "`->` is left out, with struct and union: write a variable or an array for each member"
stray_mark_text stray_mark_says.StrayToken = codes "this token can't stand here: an operand, a `;` or a bracket may be missing before it"

-- of names of the library that are left out
unfoldable pub library_text : Library → List ℕ
library_text library_says.Heap = codes "memory of the heap is left out, with malloc and free: declare an array of a fixed size"
library_text library_says.NullPointer = codes "null pointers are left out: let each pointer point to an object"
library_text library_says.OtherInput = codes "the input is read by getchar alone: make a number of its digits, one by one"
library_text library_says.LineInput = codes "lines and other input are read by getchar alone: write a loop that reads one character at a time, until it gives -1"
library_text library_says.Exit = codes "exit is left out: return from main"
library_text library_says.ExitStatus = codes "EXIT_SUCCESS and EXIT_FAILURE are left out: write 0 and 1"
library_text library_says.Streams = codes "files and streams are left out: write by printf, puts and putchar"
library_text library_says.StringFunction = codes "the functions on strings and memory are left out: write a loop over the array"
library_text library_says.RandomOrTime = codes "random numbers and times are left out: write a generator of your own, as seed = seed * 1103515245 + 12345 over an unsigned seed with a fixed start"
library_text library_says.MathFunction = codes "the functions of <math.h> and abs are left out: compute in whole numbers"
library_text library_says.BoolName = codes "bool, true and false are left out: write int, 1 and 0"

-- of other names
unfoldable pub name_text : Name → List ℕ
name_text name_says.NeedsStdio = codes "this name is of a header: put `#include <stdio.h>` first"
name_text name_says.NeedsStddef = codes "this name is of a header: put `#include <stddef.h>` first"
name_text name_says.NeedsLimits = codes "this name is of a header: put `#include <limits.h>` first"
name_text name_says.UnknownName = codes "no declaration of this name stands before it: declare it, or look at its spelling"
name_text name_says.DeclaredTwice = codes "this name is declared already in its scope, or is one of the library's"
name_text name_says.NoBody = codes "this function is called but has no body: define it in this file"
name_text name_says.NoMain = codes "there is no function int main(void): main has no parameters and its result is int"

-- of types that do not fit
unfoldable pub kinds_text : Kinds → List ℕ
kinds_text kinds_says.ParameterKind = codes "a parameter is no pointer to a pointer and no array of pointers; main has no parameters: write int main(void)"
kinds_text kinds_says.PointerToVoid = codes "pointers to void are left out: name the type of what the pointer points to, as const int *p"
kinds_text kinds_says.PointerToPointer = codes "pointers to pointers are left out: write an array of rows, or a number that tells which"
kinds_text kinds_says.ArrayOfPointers = codes "arrays of pointers are left out: write an array of rows, or of numbers that tell which"
kinds_text kinds_says.PointerElsewhere = codes "a pointer is a variable of a function and begins with an address of its type, as &x or an array: at file scope and to void it is left out"
kinds_text kinds_says.StaticVariable = codes "static variables in functions are left out: declare the variable before the function, outside of it"
kinds_text kinds_says.ItemOfBraces = codes "this number is one too many for its braces, or an array of rows lacks inner braces: write them round each row, as in {{1, 2}, {3, 4}}"
kinds_text kinds_says.SidesDiffer = codes "the two sides do not fit: pointers go with pointers of their type, and null pointers are left out"
kinds_text kinds_says.NotOfPointer = codes "`!` takes a number: that of a pointer is left out, with null pointers"
kinds_text kinds_says.Condition = codes "a condition is a number: a pointer as a condition is left out, with null pointers"
kinds_text kinds_says.ResultKind = codes "this `return` does not fit the result of its function: a value of its type, or none in a void function"
kinds_text kinds_says.KindsOther = codes "types do not fit here: numbers and pointers do not mix, and null pointers are left out"

-- of what can't be used so
unfoldable pub usage_text : Usage → List ℕ
usage_text usage_says.AddressOf = codes "`&` takes a variable or an element that is a number: that of an array, a pointer or a value is left out"
usage_text usage_says.NotAPlace = codes "what is assigned or counted here is no variable and no element"
usage_text usage_says.ConstWrite = codes "what is declared const is written here"
usage_text usage_says.ArgumentCount = codes "this call has another number of arguments than its function has parameters"
usage_text usage_says.BadSize = codes "a size is a constant of 1 or more, of at most 4194304 elements in all: arrays of variable length are left out"
usage_text usage_says.BadFormat = codes "format and arguments do not fit: there are %d %i %u %x %c %% with l or ll; %s, %f, flags and widths are left out"
usage_text usage_says.TextInFormat = codes "`%s` is left out: write the characters by putchar in a loop, or the text itself in the format"
usage_text usage_says.PutsOfArray = codes "puts takes a text between double quotes, with no zero byte in it: write an array of char by putchar in a loop"
usage_text usage_says.NothingToLeave = codes "no loop, and for `break` no switch, is open here"
usage_text usage_says.CaseAgain = codes "this switch has that case, or a default, already"

-- each sentence as it is written
unfoldable pub text : Sentence → List ℕ
text (says.Token s) = token_text s
text (says.Directive s) = directive_text s
text (says.Header s) = header_text s
text (says.Limit s) = limit_text s
text (says.LeftOut s) = left_out_text s
text (says.StrayWord s) = stray_word_text s
text (says.StrayMark s) = stray_mark_text s
text (says.Library s) = library_text s
text (says.Name s) = name_text s
text (says.Kinds s) = kinds_text s
text (says.Usage s) = usage_text s
