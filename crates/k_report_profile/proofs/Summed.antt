-- The profile and the report that are made of what is told of a run are the run's.
use Rattle.std.proofs.Common.{◌≡◌, ℕ, ℤ, Bool, List, Option, Some, None, ◌∙◌, subst}
use Rattle.k_optab.specs.declared.region.Region.{Region}
use Rattle.k_dict_entries.specs.declared.entry.Entry.{Entry}
use Rattle.k_dict_saved.specs.Profile.{IsSaved}
use Rattle.k_dict_saved.specs.declared.saved.Saved.{Saved}
use Rattle.k_report.specs.Report.{large_text}
use Rattle.k_report_profile.specs.Report.{IsReport}
use Rattle.k_report_profile.specs.RunReport.{IsLarge, IsProfileOf, IsRunReport, Ran}
use Rattle.k_report_profile.specs.Summed.{AreTold, IsSummed}
use Rattle.k_report_profile.proofs.Recorded.{run_large, run_reported, run_saved}

module _ (exit : ℤ) (ops : ℕ) (regions : List Region) (dict : Option (List Entry)) where
  -- where the dictionary is told, with the profile that has it
  module _ (saved : Saved) (exit_is : saved.exit ≡ exit) (ops_are : saved.ops ≡ ops) (regions_are : saved.regions ≡ regions) (dict_is : dict ≡ Some saved.dict)
      (ran : Ran) (s : IsSummed exit ops regions dict ran) where
    profile_of : IsProfileOf ran s.nodes saved
    profile_of =
        let told : AreTold s.nodes (Some saved.dict) = subst (λ d. AreTold s.nodes d) dict_is s.told in
        record {
          exit = exit_is ∙ s.exit_is;
          ops = ops_are ∙ s.ops_are;
          regions = regions_are ∙ s.regions_are;
          dict = told.0;
          within = told.1;
        }

    pub summed_saved : IsSaved saved
    summed_saved = run_saved ran s.whole s.nodes s.tree saved profile_of s.few

    pub summed_reported : (with_dict : Bool) (text : List ℕ) → IsReport saved with_dict text → IsRunReport ran with_dict (Some saved) text
    summed_reported with_dict text r = run_reported ran s.whole s.nodes s.tree saved profile_of with_dict text r

  -- where it is over its limits
  pub summed_large : dict ≡ None → (shown : ℤ) → shown ≡ exit → (with_dict : Bool) (profile : Option Saved) (text : List ℕ) → profile ≡ None → text ≡ large_text shown ops → (ran : Ran)
      → IsSummed exit ops regions dict ran → IsRunReport ran with_dict profile text
  summed_large none shown same with_dict profile text is_none text_is ran s =
      let over : IsLarge s.nodes = subst (λ d. AreTold s.nodes d) none s.told in
      run_large ran s.whole s.nodes s.tree over.entries over.which over.dict over.passed with_dict text profile is_none
      (text_is ∙ (λ i. large_text ((same ∙ s.exit_is) i) (s.ops_are i)))
