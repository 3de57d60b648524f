-- From a theme to a page of pairs: in reading order, the pair first. What a word means stands beside how it is computed: `Stands` (in
-- integers) is the published definition, `pairs` (by codes) the method. That meaning and method agree is proved. What a search and
-- its pages are is said in `paging`, once for every search.
pub mod Definition
pub mod Pairs
pub mod ReachedStarts
pub mod Page
pub mod WholeList
pub mod Cases
-- contracts of inner functions, which no public call promises
pub mod Along
