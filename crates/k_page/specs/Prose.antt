-- Believed with the theorem on the top call.
-- *Prose*: what a page says in its own words, and how it begins and ends.
use Rattle.std.specs.Prelude.{ℕ, List, [], ◌∷◌, ◌++◌, codes}
use Rattle.std.specs.List.{concat}
use Rattle.k_page.specs.declared.prose.Prose.{Prose}
use Rattle.k_page.specs.declared.prose.Prose.TheVariants as prose

-- a text of the page
unfoldable pub words : Prose → List ℕ
words prose.Work = codes "Every operation costs what a table of latencies says. The work of a function, a loop or a loop body is what all its operations cost together, over all n times that it was entered. Its path is what the longest chain of operations costs that wait for one another: with any number of processors it takes no less."
words prose.Parallel = codes "The self-parallelism sp tells how many times faster it could be at best by making itself parallel, and nothing within it: for a loop, its turns. It is a fraction; 1/1 says that nothing is gained."
words prose.Saving = codes "A loop of the plan saves its work less its work over its self-parallelism. It is doall where its turns hardly waited for one another, and doacross where they did in part, or differ much in length. Of loops inside one another at most one is in the plan."
words prose.Picture = codes "Each box is a function, loop or body as it was reached from main; it is as wide as its share of the work, and stands under the one that it was reached from. Its own work stands at its left, what was reached from it beside that. Boxes that are too narrow are left out."
words prose.OneRun = codes "All numbers are of one run with one input: other runs may have other dependences. Look at a loop before you change it."
words prose.NoPlan = codes "There are more than 65536 ways on which regions were reached, and so there are no plan and no picture."
words prose.Large = codes "The profile is over the limits of its dictionary, which lists each shape of instances once; so there are no rows, no plan and no picture. A smaller --depth tracks fewer levels, and has fewer shapes."
words prose.Heading = codes "Profile of "
words prose.Meaning = codes "What the numbers mean"
words prose.RowsCaption = codes "All functions, loops and bodies that were entered"
words prose.PlanCaption = codes "Loops to make parallel first"
words prose.DictionaryCaption = codes "The dictionary: each shape of instances, with its children as entry*count"
words prose.ShadesCaption = codes "Shades of the boxes, by sp; boxes of the plan are outlined"
words prose.PictureTitle = codes "Where the work is"
words prose.PictureText = codes "Boxes for functions, loops and bodies, each under the one around it, as wide as its share of the work. Their numbers stand in the tables below."
words prose.SourceNotes = codes "what begins there, with its share of the work"
words prose.BelowTwo = codes "below 2"
words prose.BelowFive = codes "2 to below 5"
words prose.BelowTwentyFive = codes "5 to below 25"
words prose.BelowHundred = codes "25 to below 100"
words prose.HundredAndMore = codes "100 and more"

-- what stands before the title: the type of the page, its language, and how it looks
unfoldable pub opening : List ℕ
opening = concat (
    codes "<!DOCTYPE html>\n" ∷
    codes "<html lang=\"en\">\n" ∷
    codes "<meta charset=\"utf-8\">\n" ∷
    codes "<meta name=\"viewport\" content=\"width=device-width\">\n" ∷
    codes "<style>\n" ∷
    codes "body{font:15px/1.4 system-ui,sans-serif;color:#111;background:#fff;margin:1em auto;max-width:80em;padding:0 1em}\n" ∷
    codes "table{border-collapse:collapse;margin:1em 0}\n" ∷
    codes "caption{text-align:left;font-weight:bold;padding:.3em 0}\n" ∷
    codes "th,td{padding:.1em .6em;text-align:right;vertical-align:top;border-bottom:1px solid #ddd}\n" ∷
    codes "th[scope=row],.w{text-align:left}\n" ∷
    codes "code{white-space:pre;font:13px/1.4 monospace}\n" ∷
    codes "td p{margin:0}\n" ∷
    codes "meter{width:6em}\n" ∷
    codes "svg{max-width:100%;height:auto}\n" ∷
    codes "svg svg{max-width:none}\n" ∷
    codes "text{font:12px sans-serif;fill:#111}\n" ∷
    codes "rect{stroke:#fff;stroke-width:1}\n" ∷
    codes ".s1{fill:#ffffcc;background:#ffffcc}\n" ∷
    codes ".s2{fill:#a1dab4;background:#a1dab4}\n" ∷
    codes ".s3{fill:#41b6c4;background:#41b6c4}\n" ∷
    codes ".s4{fill:#2c7fb8;background:#2c7fb8;color:#fff}\n" ∷
    codes ".s5{fill:#253494;background:#253494;color:#fff}\n" ∷
    codes ".s4+text,.s5+text{fill:#fff}\n" ∷
    codes ".picked{stroke:#d00000;stroke-width:5}\n" ∷
    codes "</style>\n" ∷
    [])

-- what stands behind the page
unfoldable pub closing : List ℕ
closing = codes "</html>\n"
